-- `checked::write_deleted` meets its contract. The loop's invariant: laying the remaining keys from here on gives the area with all laid. Assumes nothing.
use Rattle.definitions.specs.Tables.{items}
use Rattle.laws.specs.Laying.{Laying}
use Rattle.delta_making.specs.Parts.{part, deleted_ints}
use Rattle.delta_making.proofs.Places.{Along}
use Rattle.delta_making.proofs.checked.write_deleted.Given as goal

abbrev pub invariant-loop-i : goal.invariant-loop-i
invariant-loop-i l =
    Along l.target l.nt l.p l.base l.i × Laying l.initial.out l.at (deleted_ints (items l.target) (part l.from l.to (items l.base))) l.out l.w (deleted_ints (items l.target) (part l.i l.to (items l.base)))
