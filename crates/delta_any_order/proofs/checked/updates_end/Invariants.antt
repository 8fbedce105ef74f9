-- `checked::updates_end` meets its contract. The loop's invariant: of updates there from the start on, those left are there from the place on. Assumes nothing.
use Prim.Native.Nat.{ℕ, ◌+◌, ◌-◌, ◌≤◌, ◌^◌}
use lib.ListN.{length}
use Rattle.delta_any_order.specs.Fronts.{Laid}
use Rattle.delta_any_order.proofs.checked.updates_end.Given as goal

abbrev pub invariant-loop : goal.invariant-loop
invariant-loop l = ((end : ℕ) → Laid l.area l.start l.n end → Laid l.area l.at (l.n - l.counter) end) × (l.at ≤ length l.area + 2 ^ 33)
