-- `raw_snap::crc` meets its contract: by the form of the area. Assumes nothing.
use mir.Facts.{to_z-of_z}
use Rattle.table.specs.Forms.{formed}
use Rattle.raw_snap.proofs.Calls.{not-held, crc-is}
use Rattle.std.proofs.Common.{w32}
use Rattle.raw_snap.proofs.crc.Goals as goal

pub returns-in_default : goal.returns-in_default
returns-in_default c =
    rw (not-held _ c.in_default.ensures)

pub crc-requires : goal.crc-requires
crc-requires c =
    (formed _ _ _ c.in-Some.ensures).0

pub returns : goal.returns
returns c =
    let holding = (formed _ _ _ c.in-Some.ensures).0 in
    rw (to_z-of_z {w = w32} (record { sfits = c.crc.type_inv })) (crc-is _ _ holding _ c.crc.ensures)
