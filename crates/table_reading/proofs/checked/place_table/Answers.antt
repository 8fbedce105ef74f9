-- `checked::place_table` meets its contract: by whether all items are placed, and by the room. Assumes nothing.
use Rattle.std.proofs.lemmas.Result.{err_from_is_err_and}
use native.Mathlib.Omega.{arith}
use Rattle.table_reading.proofs.Storing.{placed-refused, placed-all, not-stored, no_room, with-room}
use Rattle.table_reading.proofs.checked.place_table.Goals as goal

pub returns-in_err-place_items : goal.returns-in_err-place_items
returns-in_err-place_items c =
    let p = err_from_is_err_and c.from_residual.result c.from_residual.ensures.1 in
    rw (p.1, p.2) (not-stored _ (placed-refused c.in_err-place_items.was c.place_items.ensures))

pub returns-then-out-total : goal.returns-then-out-total
returns-then-out-total c =
    let x = placed-all c.in_ok-place_items.was c.place_items.ensures in
    no_room _ _ _ _ x _ (omega arith)

pub write_table-requires : goal.write_table-requires
write_table-requires c = (placed-all c.in_ok-place_items.was c.place_items.ensures, omega arith)

pub returns : goal.returns
returns c =
    let x = placed-all c.in_ok-place_items.was c.place_items.ensures in
    with-room _ _ _ _ x _ _ (omega arith) c.write_table.ensures
