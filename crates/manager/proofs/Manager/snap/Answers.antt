-- `Manager::snap` meets its contract. Assumes nothing.
use mir.Facts.{to_z-of_z}
use Rattle.std.proofs.Common.{w32}
use Rattle.manager.proofs.Manager.snap.Goals as goal

pub returns : goal.returns
returns c =
    let f = c.ranges in
    (rw (to_z-of_z {w = w32} f.num_parts, to_z-of_z {w = w32} f.part, to_z-of_z {w = w32} f.crc) at c.message.ensures.0, c.message.ensures.1)
