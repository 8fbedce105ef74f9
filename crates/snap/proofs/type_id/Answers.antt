-- `snap::type_id` meets its contract: by the form of the area. Assumes nothing.
use mathlib.Core.Path.{◌∙◌}
use Rattle.table.specs.Forms.{formed}
use Rattle.snap.proofs.Calls.{no-type, type-is}
use Rattle.snap.proofs.type_id.Goals as goal

pub returns-in_default : goal.returns-in_default
returns-in_default c = no-type _ c.in_default.ensures _

pub type_of-requires : goal.type_of-requires
type_of-requires c =
    (formed _ _ _ c.in-Some.ensures).0

pub returns : goal.returns
returns c =
    type-is _ _ (formed _ _ _ c.in-Some.ensures).0 _ ∙ c.type_of.ensures
