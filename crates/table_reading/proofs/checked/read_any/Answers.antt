-- `checked::read_any` meets its contract: by the header. Assumes nothing.
use Rattle.table_reading.proofs.Outcomes.{header_refused, header-table}
use Rattle.table_reading.proofs.checked.read_any.Goals as goal

pub returns-in-Err : goal.returns-in-Err
returns-in-Err c = header_refused _ _ c.read_header.ensures _ _ c.in-Err.is

pub returns-in-Ok : goal.returns-in-Ok
returns-in-Ok c =
    header-table _ _ c.read_header.ensures _ _ _ c.place_table.result c.in-Ok.is c.place_table.ensures
