-- `delta_index::checked::write_deleted` meets its contract. The loop's invariant: the deleted keys from entry i on remain to be laid. Assumes nothing.
use Rattle.sorting.specs.Pairs.{pairs}
use Rattle.delta_index.proofs.Telling.{Putting}
use Rattle.delta_index.proofs.checked.write_deleted.Given as goal

abbrev pub invariant-loop-i : goal.invariant-loop-i
invariant-loop-i l = Putting (pairs l.index l.n) l.at l.initial.out l.i l.w l.d l.out
