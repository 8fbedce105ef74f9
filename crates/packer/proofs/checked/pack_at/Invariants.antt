-- `checked::pack_at` meets its contract. The loop's invariant: with the rest packed from here on, the area is as it should be.
-- Assumes nothing.
use Rattle.packer.proofs.Packing.{Packing}
use Rattle.packer.proofs.checked.pack_at.Given as goal

abbrev pub invariant-loop-x : goal.invariant-loop-x
invariant-loop-x l = Packing l.xs l.start l.initial.out l.out l.at l.x-index
