-- `replay_text::put_ints` meets its contract. The loop's invariant: with the rest put too, the buffer is as it should be. Assumes nothing.
use mathlib.Core.Path.{◌≡◌}
use lib.ListN.{drop}
use Rattle.replay_text.specs.Buffer.{puts}
use Rattle.replay_text.specs.Numbers.{list}
use Rattle.replay_text.proofs.put_ints.Given as goal

abbrev pub invariant-loop-n : goal.invariant-loop-n
invariant-loop-n l =
    puts (list (drop l.n-index l.n-items)) (record { next = l.next; out = l.out }) ≡ puts (list l.n-items) (record { next = l.at; out = l.initial.out })
