-- `raw_snap::num_items` meets its contract: by the form of the area. Assumes nothing.
use Rattle.table.specs.Forms.{formed}
use Rattle.raw_snap.proofs.Calls.{not-held, num-items-is}
use Rattle.raw_snap.proofs.num_items.Goals as goal

pub returns-in-None : goal.returns-in-None
returns-in-None c =
    rw (not-held _ c.in-None.ensures)

pub returns-in-Some : goal.returns-in-Some
returns-in-Some c =
    let holding = (formed _ _ _ c.in-Some.ensures).0 in
    num-items-is _ _ holding
