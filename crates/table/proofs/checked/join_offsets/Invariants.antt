-- `checked::join_offsets` meets its contract. Assumes nothing.
use Prim.Native.Nat.{◌-◌, ◌≤◌}
use mathlib.Core.Path.{◌≡◌}
use Rattle.table.specs.Offsets.{behind_at, joined, tally}
use Rattle.table.proofs.checked.join_offsets.Given as goal

abbrev pub invariant-loop-i : goal.invariant-loop-i
invariant-loop-i l = (l.i - 1 ≤ l.n - 1) × (l.behind ≡ tally (behind_at l.area) (l.i - 1)) × (l.bits ≡ joined l.area (l.i - 1))
