-- `checked::keys_fit_from` meets its contract. Assumes nothing.
use Rattle.table.specs.Keys.{Rising}
use Rattle.table.proofs.checked.keys_fit_from.Given as goal

abbrev pub invariant-loop-i : goal.invariant-loop-i
invariant-loop-i l = Rising l.area l.n l.size l.i l.last
