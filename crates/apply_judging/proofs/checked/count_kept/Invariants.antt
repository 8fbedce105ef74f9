-- `checked::count_kept` meets its contract. The loop's invariant: the sizes of what is kept of the first i items. Assumes nothing.
use Prim.Native.Nat.{◌≤◌}
use Rattle.apply_judging.specs.Judging.{deleted_of}
use Rattle.apply_judging.proofs.Turns.{Keeping}
use Rattle.apply_judging.proofs.checked.count_kept.Given as goal

abbrev pub invariant-loop-i : goal.invariant-loop-i
invariant-loop-i l = (l.g ≤ l.deleted) × Keeping (deleted_of l.delta l.deleted) l.base l.i l.n l.w
