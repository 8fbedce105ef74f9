-- `ints::checked::sub_into` meets its contract. The loop's invariant: laying the remaining differences from here on gives the area with all laid.
-- Assumes nothing.
use Rattle.std.proofs.Common.{◌≡◌, ◌+◌, drop}
use Rattle.definitions.specs.Ints.{wrapping_sub}
use Rattle.definitions.specs.Areas.{lay_at}
use Rattle.definitions.specs.DeltaMaking.{zip_with}
use Rattle.ints.proofs.checked.sub_into.Given as goal

abbrev pub invariant-loop-i : goal.invariant-loop-i
invariant-loop-i l = lay_at (l.at + l.i) (drop l.i (zip_with wrapping_sub l.a l.b)) l.out ≡ lay_at l.at (zip_with wrapping_sub l.a l.b) l.initial.out
