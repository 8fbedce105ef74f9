-- `checked::read_typed` meets its contract: by the header, and then by the items. Assumes nothing.
use Rattle.snap.proofs.Placing.{header_refused, header-table}
use Rattle.snap.proofs.checked.read_typed.Goals as goal

pub returns-in-Err : goal.returns-in-Err
returns-in-Err c = header_refused _ _ _ c.in-Err.ensures.0

pub returns-in-Ok : goal.returns-in-Ok
returns-in-Ok c =
    header-table _ c.in-Ok.header c.place_typed-placing.result.kinds _ _ c.place_typed-placing.result.answer c.in-Ok.ensures.0 c.place_typed-placing.ensures
