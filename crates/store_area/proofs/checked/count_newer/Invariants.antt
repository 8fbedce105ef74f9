-- `checked::count_newer` meets its contract. The loop's invariant: the tables passed are not older. Assumes nothing.
use Rattle.store_area.proofs.Steps.{Newer}
use Rattle.store_area.specs.Held.{snaps_in, place_of}
use mathlib.Core.Path.{◌≡◌}
use Rattle.store_area.proofs.checked.count_newer.Given as goal

abbrev pub invariant-loop-i : goal.invariant-loop-i
invariant-loop-i l =
    (l.p ≡ place_of (snaps_in l.count l.area) l.i) × Newer l.tick.0 (snaps_in l.count l.area) l.i
