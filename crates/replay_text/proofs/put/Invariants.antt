-- `replay_text::put` meets its contract. The loop's invariant: with the rest put too, the buffer is as it should be. Assumes nothing.
use mathlib.Core.Path.{◌≡◌}
use lib.ListN.{drop}
use Rattle.replay_text.specs.Buffer.{puts}
use Rattle.replay_text.proofs.put.Given as goal

abbrev pub invariant-loop-b : goal.invariant-loop-b
invariant-loop-b l =
    puts (drop l.b-index l.text) (record { next = l.next; out = l.out }) ≡ puts l.text (record { next = l.at; out = l.initial.out })
