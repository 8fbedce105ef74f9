-- `ints::sum` meets its contract. The loop's invariant: the total plus the sum of the rest is the whole sum.
-- Assumes nothing.
use Rattle.std.proofs.Common.{◌≡◌, drop}
use Rattle.definitions.specs.Ints.{wrapping_add}
use Rattle.definitions.specs.Ints as Ints
use Rattle.ints.proofs.sum.Given as goal

abbrev pub invariant-loop-x : goal.invariant-loop-x
invariant-loop-x l = wrapping_add l.total (Ints.sum (drop l.x-index l.xs)) ≡ Ints.sum l.xs
