-- `checked::copy_table` meets its contract: by the room. Assumes nothing.
use Rattle.table.specs.Writing.{form-length, copied-call}
use Rattle.raw_snap.proofs.checked.copy_table.Goals as goal

pub slice_bounds-copy_into-end : goal.slice_bounds-copy_into-end
slice_bounds-copy_into-end c = form-length _ c.requires

pub returns-then-copy_into : goal.returns-then-copy_into
returns-then-copy_into c =
    rw c.if-copy_into.true at (copied-call c.args.area.now c.requires c.args.out.now _ c.copy_into.ensures)

pub returns : goal.returns
returns c =
    rw c.if-copy_into.false at (copied-call c.args.area.now c.requires c.args.out.now _ c.copy_into.ensures)
