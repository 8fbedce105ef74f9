-- `delta_index::checked::tally_pairs` meets its contract. The loop's invariant: the counts plus those of the entries from i on are the totals. Assumes nothing.
use Rattle.sorting.specs.Pairs.{pairs}
use Rattle.delta_index.proofs.Telling.{Telling}
use Rattle.delta_index.proofs.checked.tally_pairs.Given as goal

abbrev pub invariant-loop-i : goal.invariant-loop-i
invariant-loop-i l = Telling (pairs l.index l.n) l.i l.deleted l.updated l.across l.d
