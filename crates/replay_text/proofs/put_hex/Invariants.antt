-- `replay_text::put_hex` meets its contract. The loop's invariant: with the rest put too, the buffer is as it should be. Assumes nothing.
use mathlib.Core.Path.{◌≡◌}
use lib.ListN.{drop}
use Rattle.replay_text.specs.Buffer.{puts}
use Rattle.replay_text.specs.Numbers.{hex_digits}
use Rattle.replay_text.proofs.put_hex.Given as goal

abbrev pub invariant-loop-b : goal.invariant-loop-b
invariant-loop-b l =
    puts (hex_digits (drop l.b-index l.bytes)) (record { next = l.next; out = l.out }) ≡ puts (hex_digits l.bytes) (record { next = l.at; out = l.initial.out })
