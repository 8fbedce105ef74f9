-- `checked::write_ints` meets its contract: by the room. Assumes nothing.
use native.Mathlib.Omega.{arith}
use Rattle.delta_writing.proofs.Whole.{ints-within, ints-refused, ints-stored}
use Rattle.delta_writing.proofs.checked.write_ints.Goals as goal

pub overflow_add-n : goal.overflow_add-n
overflow_add-n c =
    let s = c.args in
    omega (arith, ints-within s.sizes.now s.area.now s.deleted s.updated c.requires, c.updates_len.ensures)

pub returns-then-out-n : goal.returns-then-out-n
returns-then-out-n c =
    let s = c.args in
    ints-refused s.sizes.now s.area.now s.deleted s.updated c.requires _ s.out.now c.updates_len.ensures c.if-out-n.true

pub returns : goal.returns
returns c =
    let s = c.args in
    let w = c.write_updates.ensures in
    ints-stored s.sizes.now s.area.now s.deleted s.updated c.requires _ _ s.out.now _ _ _ c.updates_len.ensures c.if-out-n.false c.copy_into.ensures w.0 w.1
