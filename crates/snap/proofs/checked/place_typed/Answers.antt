-- `checked::place_typed` meets its contract: by whether all items are placed, by their types, and by the room. Assumes nothing.
use native.Mathlib.Omega.{arith}
use Rattle.types.specs.Picks.{picks}
use Rattle.snap.proofs.Placing.{placed-refused, placed-all, types-refused, no_room, with-room}
use Rattle.snap.proofs.checked.place_typed.Goals as goal

pub returns-in-Err : goal.returns-in-Err
returns-in-Err c = placed-refused _ c.in-Err.ensures

pub invariant_of-judge : goal.invariant_of-judge
invariant_of-judge c = record { picks = picks (placed-all c.in_default.ensures) }

pub returns-in-Err-types : goal.returns-in-Err-types
returns-in-Err-types c =
    let a = c.args in
    types-refused a.src.now a.n a.len _ (placed-all c.in_default.ensures) _ _ _ (rw c.in-Err-types.is at c.judge-judged.ensures)

pub returns-then-out-total : goal.returns-then-out-total
returns-then-out-total c =
    let a = c.args in
    no_room a.src.now a.n a.len _ (placed-all c.in_default.ensures) _ _ (rw c.in_default-types.is at c.judge-judged.ensures) (omega arith)

pub write_table-requires : goal.write_table-requires
write_table-requires c = (placed-all c.in_default.ensures, omega arith)

pub returns : goal.returns
returns c =
    let a = c.args in
    with-room a.src.now a.n a.len _ (placed-all c.in_default.ensures) _ _ (rw c.in_default-types.is at c.judge-judged.ensures) _ (omega arith) c.write_table.ensures
