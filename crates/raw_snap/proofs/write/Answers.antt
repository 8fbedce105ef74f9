-- `raw_snap::write` meets its contract: by the check of the form, and then as the ints of the table are packed. Assumes nothing.
use mathlib.Core.Path.{◌∙◌}
use Rattle.definitions.specs.Stored.{stored}
use Rattle.table.specs.Writing.{not-held, bytes-call, form-length}
use Rattle.raw_snap.proofs.write.Goals as goal

pub returns-in_default : goal.returns-in_default
unfolding stored
returns-in_default c = rw (not-held c.args.area.now c.in_default.ensures)

pub slice_bounds-pack-end : goal.slice_bounds-pack-end
slice_bounds-pack-end c = form-length c.args.area.now c.in-Some.ensures

pub returns-in-Some : goal.returns-in-Some
returns-in-Some c = bytes-call c.args.area.now c.in-Some.ensures c.args.out.now ∙ c.pack.ensures
