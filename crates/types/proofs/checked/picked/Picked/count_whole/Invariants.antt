-- `Picked::count_whole` meets its contract. The loop's invariant: the items so far are whole. Assumes nothing.
use Prim.Native.Nat.{ℕ, ◌≤◌, ◌<◌}
use lib.ListN.{length}
use Rattle.types.specs.Picks.{values_of}
use Rattle.types.proofs.checked.picked.Picked.count_whole.Given as goal

abbrev pub invariant-loop-j : goal.invariant-loop-j
invariant-loop-j l = (i : ℕ) → i < l.j → 4 ≤ length (values_of l.self.src.now l.self.index.now i)
