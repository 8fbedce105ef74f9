-- `checked::count_deleted` meets its contract. The loop's invariant: the count plus the missing keys of the remaining items is the total. Assumes nothing.
use Prim.Native.Nat.{◌+◌, ◌≤◌}
use mathlib.Core.Path.{◌≡◌}
use lib.ListN.{length}
use Rattle.definitions.specs.Tables.{items}
use Rattle.definitions.specs.DeltaMaking.{lacking}
use Rattle.delta_making.specs.Parts.{part}
use Rattle.delta_making.proofs.Places.{Along}
use Rattle.delta_making.proofs.checked.count_deleted.Given as goal

abbrev pub invariant-loop-i : goal.invariant-loop-i
invariant-loop-i l =
    Along l.target l.nt l.p l.base l.i × (l.deleted ≤ l.i) × (l.deleted + length (lacking (items l.target) (part l.i l.nb (items l.base))) ≡ length (lacking (items l.target) (items l.base)))
