-- `packer::may_have_padding` meets its contract. The loop's invariant: unless some were found, there are none at the places passed. Assumes nothing.
use Rattle.packer.proofs.Pretest.{Passed}
use Rattle.packer.proofs.may_have_padding.Given as goal

abbrev pub invariant-loop-p : goal.invariant-loop-p
invariant-loop-p l = Passed l.src l.p l.found
