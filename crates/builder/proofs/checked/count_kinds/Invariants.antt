-- `checked::count_kinds` meets its contract. The loop's invariant: the kinds so far run, and the items from j on determine the rest. Assumes nothing.
use Rattle.definitions.specs.Tables.{item_at}
use Rattle.builder.proofs.Counting.{Left}
use Rattle.builder.proofs.checked.count_kinds.Given as goal

abbrev pub invariant-loop-j : goal.invariant-loop-j
invariant-loop-j l = Left (item_at l.area) l.n l.j
