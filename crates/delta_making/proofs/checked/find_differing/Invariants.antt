-- `checked::find_differing` meets its contract. The loop's invariant: the first clash is that of the remaining items. Assumes nothing.
use mathlib.Core.Path.{◌≡◌}
use Rattle.definitions.specs.Tables.{items}
use Rattle.definitions.specs.DeltaMaking.{first_clash}
use Rattle.delta_making.specs.Parts.{part}
use Rattle.delta_making.proofs.Places.{Along}
use Rattle.delta_making.proofs.checked.find_differing.Given as goal

abbrev pub invariant-loop-i : goal.invariant-loop-i
invariant-loop-i l =
    Along l.base l.nb l.p l.target l.i × (first_clash (items l.base) (part l.i l.nt (items l.target)) ≡ first_clash (items l.base) (items l.target))
