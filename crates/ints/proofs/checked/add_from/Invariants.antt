-- `ints::checked::add_from` meets its contract. The loop's invariant: laying the remaining sums from here on gives the area with all sums laid.
-- Assumes nothing.
use Rattle.std.proofs.Common.{◌≡◌, ◌+◌, drop}
use Rattle.definitions.specs.Ints.{wrapping_add}
use Rattle.definitions.specs.Areas.{lay_at}
use Rattle.definitions.specs.DeltaMaking.{zip_with}
use Rattle.ints.proofs.checked.add_from.Given as goal

abbrev pub invariant-loop-i : goal.invariant-loop-i
invariant-loop-i l = lay_at (l.at + l.i) (drop l.i (zip_with wrapping_add l.a l.b)) l.out ≡ lay_at (l.at + l.start) (drop l.start (zip_with wrapping_add l.a l.b)) l.initial.out
