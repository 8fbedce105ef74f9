-- `packer::write_more` meets its contract. The loop's invariant: with the rest of the digits laid from here on, the area is as it should be.
-- Assumes nothing.
use mathlib.Core.Path.{◌≡◌}
use lib.ListN.{length}
use Rattle.packer.proofs.Writes.{Rest}
use Rattle.packer.proofs.write_more.Given as goal

abbrev pub invariant-loop-left : goal.invariant-loop-left
invariant-loop-left l = (length l.out ≡ length l.initial.out) × Rest l.start l.digits l.initial.out l.at l.left l.out

abbrev pub decreases-loop-left : goal.decreases-loop-left
decreases-loop-left l = l.left
