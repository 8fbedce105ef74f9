-- `checked::sizes_match` meets its contract. The loop's invariant: the answer is that of the updates that are left. Assumes nothing.
use Prim.Native.Nat.{◌+◌, ◌-◌}
use mathlib.Core.Path.{◌≡◌}
use mathlib.Core.List.{[]}
use Rattle.definitions.specs.Deltas.{updates}
use Rattle.definitions.specs.DeltaCalls.{sizes_match}
use Rattle.laws.specs.DeltaShape.{Updates}
use Rattle.delta_writing.proofs.checked.sizes_match.Given as goal

abbrev pub invariant-loop : goal.invariant-loop
invariant-loop l =
    Updates [] l.area l.p (l.updated - l.counter) × (sizes_match l.sizes (updates [] l.area l.p (l.updated - l.counter)) ≡ sizes_match l.sizes (updates [] l.area (3 + l.deleted) l.updated))
