-- `Manager::snap_single` meets its contract. Assumes nothing.
use mir.Facts.{to_z-of_z}
use Rattle.std.proofs.Common.{w32}
use Rattle.manager.proofs.Manager.snap_single.Goals as goal

pub returns : goal.returns
returns c =
    let f = c.ranges in
    (rw (to_z-of_z {w = w32} f.crc) at c.message.ensures.0, c.message.ensures.1)
