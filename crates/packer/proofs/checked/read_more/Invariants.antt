-- `packer::checked::read_more` meets its contract. The loop's invariant: what is left to read comes to the same as all of it. Assumes nothing.
use Rattle.packer.proofs.Steps.{Reading}
use Rattle.packer.proofs.checked.read_more.Given as goal

abbrev pub invariant-loop-at : goal.invariant-loop-at
invariant-loop-at l = Reading l.src l.start l.first l.sign l.at l.digits l.weight
