-- `checked::write_packed` meets its contract: by the room. Assumes nothing.
use native.Mathlib.Omega.{arith}
use Rattle.delta_writing.proofs.Whole.{bytes-within, bytes-refused, bytes-stored}
use Rattle.delta_writing.proofs.checked.write_packed.Goals as goal

pub overflow_add-bytes : goal.overflow_add-bytes
overflow_add-bytes c =
    let s = c.args in
    omega (arith, bytes-within s.sizes.now s.area.now s.deleted s.updated c.requires, c.updates_packed_len.ensures, c.packed_len.ensures)

pub returns-then-out-bytes : goal.returns-then-out-bytes
returns-then-out-bytes c =
    let s = c.args in
    bytes-refused s.sizes.now s.area.now s.deleted s.updated c.requires _ _ s.out.now c.packed_len.ensures c.updates_packed_len.ensures c.if-out-bytes.true

pub returns : goal.returns
returns c =
    let s = c.args in
    let e = c.pack_at-at.ensures in
    let d = c.pack_updates.ensures in
    bytes-stored s.sizes.now s.area.now s.deleted s.updated c.requires _ _ s.out.now c.packed_len.ensures c.updates_packed_len.ensures c.if-out-bytes.false _ _ e.0 e.1 _ _ d.0 d.1
