-- `checked::write_updates` meets its contract. The loop's invariant: laying the remaining updates from here on gives the area with all laid. Assumes nothing.
use Rattle.definitions.specs.Tables.{items}
use Rattle.laws.specs.Laying.{Laying}
use Rattle.delta_making.specs.Parts.{part, changes_ints}
use Rattle.delta_making.proofs.Places.{Along}
use Rattle.delta_making.proofs.checked.write_updates.Given as goal

abbrev pub invariant-loop-i : goal.invariant-loop-i
invariant-loop-i l =
    Along l.base l.nb l.p l.target l.i × Laying l.initial.out l.at (changes_ints (items l.base) (part l.from l.to (items l.target))) l.out l.w (changes_ints (items l.base) (part l.i l.to (items l.target)))
