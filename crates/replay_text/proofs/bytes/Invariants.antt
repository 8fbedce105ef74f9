-- `replay_text::bytes` meets its contract. The loop's invariant: with the rest put too, the area is as it should be. Assumes nothing.
use mathlib.Core.Path.{◌≡◌}
use Prim.Native.Nat.{◌*◌, ◌≤◌}
use lib.ListN.{length, drop}
use Rattle.replay_text.specs.Buffer.{puts}
use Rattle.replay_text.specs.Numbers.{bytes}
use Rattle.replay_text.proofs.bytes.Given as goal

abbrev pub invariant-loop-i : goal.invariant-loop-i
invariant-loop-i l = record {
  within : l.next ≤ length l.out;
  same : puts (bytes (drop (2 * l.i) l.text)) (record { next = l.next; out = l.out }) ≡ puts (bytes l.text) (record { next = 0; out = l.initial.out });
}
