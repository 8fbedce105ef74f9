-- `replay_text::ints` meets its contract. The loop's invariant: with the rest put too, the area is as it should be. Assumes nothing.
use mathlib.Core.Path.{◌≡◌}
use Prim.Native.Nat.{◌≤◌}
use lib.ListN.{length, drop}
use Rattle.replay_text.specs.Buffer.{put_values}
use Rattle.replay_text.specs.Numbers.{ints}
use Rattle.replay_text.proofs.ints.Given as goal

abbrev pub invariant-loop-i : goal.invariant-loop-i
invariant-loop-i l = record {
  within : l.next ≤ length l.out;
  same : put_values (ints (drop l.i l.line)) (record { next = l.next; out = l.out }) ≡ put_values (ints l.line) (record { next = 0; out = l.initial.out });
}
