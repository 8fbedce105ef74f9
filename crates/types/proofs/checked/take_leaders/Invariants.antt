-- `checked::take_leaders` meets its contract. The loop's invariant: the pairs so far have their leaders, and that of the last is known. Assumes nothing.
use Prim.Native.Nat.{◌-◌, ◌<◌}
use Rattle.sorting.specs.Pairs.{pair_at}
use Rattle.types.specs.Kinds.{Leader, Leaders}
use Rattle.types.proofs.checked.take_leaders.Given as goal

abbrev pub invariant-loop-i : goal.invariant-loop-i
invariant-loop-i l = record {
  led : Leaders (pair_at l.list) l.m l.i l.classes;
  last : 0 < l.i → Leader (pair_at l.list) l.m (l.i - 1) l.least;
}
