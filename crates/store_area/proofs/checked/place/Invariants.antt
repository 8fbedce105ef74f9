-- `checked::place` meets its contract. The loop's invariant: p is the place of the k-th table. Assumes nothing.
use Rattle.store_area.specs.Held.{snaps_in, place_of}
use mathlib.Core.Path.{◌≡◌}
use Rattle.store_area.proofs.checked.place.Given as goal

abbrev pub invariant-loop : goal.invariant-loop
invariant-loop l = l.p ≡ place_of (snaps_in l.count l.area) l.counter
