-- `checked::write_area` meets its contract: by the room. Assumes nothing.
use native.Mathlib.Omega.{arith}
use Rattle.delta_reading.proofs.Whole.{whole-short, area-refused, area-stored}
use Rattle.delta_reading.proofs.checked.write_area.Goals as goal

pub overflow_add-n : goal.overflow_add-n
overflow_add-n c =
    let s = c.args in
    omega (arith, whole-short s.sizes.now s.src.now s.deleted s.updated c.requires, c.updates_len.ensures)

pub returns-then-out-n : goal.returns-then-out-n
returns-then-out-n c =
    let s = c.args in
    area-refused s.sizes.now s.src.now s.deleted s.updated c.requires _ s.out.now c.updates_len.ensures c.if-out-n.true

pub returns : goal.returns
returns c =
    let s = c.args in
    let w = c.write_updates.ensures in
    area-stored s.sizes.now s.src.now s.deleted s.updated c.requires _ _ s.out.now _ _ _ c.updates_len.ensures c.if-out-n.false c.copy_into.ensures w.0 w.1
