-- `table_text::put_items` meets its contract. The loop's invariant: the lines of the items before i are put. Assumes nothing.
use mathlib.Core.Path.{◌≡◌}
use Rattle.definitions.specs.Tables.{list, item_at}
use Rattle.replay_text.specs.Buffer.{puts}
use Rattle.table_text.specs.Listing.{item_lines}
use Rattle.table_text.proofs.put_items.Given as goal

abbrev pub invariant-loop-i : goal.invariant-loop-i
invariant-loop-i l =
    puts (item_lines (list (item_at l.area) l.i)) (record { next = l.at; out = l.initial.out }) ≡ record { next = l.end; out = l.out }
