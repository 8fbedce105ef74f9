-- `snap::raw_type_id` meets its contract: by the form of the area. Assumes nothing.
use mathlib.Core.Path.{◌∙◌}
use Rattle.table.specs.Forms.{formed}
use Rattle.snap.proofs.Calls.{no-raw-type, raw-type-is}
use Rattle.snap.proofs.raw_type_id.Goals as goal

pub returns-in_default : goal.returns-in_default
returns-in_default c = no-raw-type _ c.in_default.ensures _

pub raw_of-requires : goal.raw_of-requires
raw_of-requires c =
    (formed _ _ _ c.in-Some.ensures).0

pub returns : goal.returns
returns c =
    raw-type-is _ _ (formed _ _ _ c.in-Some.ensures).0 _ ∙ c.raw_of.ensures
