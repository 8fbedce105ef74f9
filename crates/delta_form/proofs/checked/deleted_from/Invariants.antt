-- `checked::deleted_from` meets its contract. The loop's invariant: the keys passed are below the one that is searched. Assumes nothing.
use Rattle.definitions.specs.Ints.{bits}
use Rattle.definitions.specs.Deltas.{rank}
use Rattle.delta_form.specs.Reached.{Under}
use Rattle.delta_form.proofs.checked.deleted_from.Given as goal

abbrev pub invariant-loop-i : goal.invariant-loop-i
invariant-loop-i l = Under l.src l.i (rank (bits l.fn.key))
