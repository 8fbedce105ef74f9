-- `raw_snap::write_to_ints` meets its contract: by the check of the form, and then by the copy. Assumes nothing.
use Rattle.definitions.specs.Stored.{stored}
use Rattle.table.specs.Writing.{not-held}
use Rattle.raw_snap.specs.Applied.{form-counted}
use Rattle.raw_snap.proofs.write_to_ints.Goals as goal

pub returns-in_default : goal.returns-in_default
unfolding stored
returns-in_default c =
    let a = c.args in
    rw (not-held a.area.now (c.in_default.ensures))

pub copy_table-requires : goal.copy_table-requires
copy_table-requires c = form-counted _ _ _ (c.in-Some.ensures)
