-- The numbers of each message. Assumes nothing.
use Rattle.definitions.specs.Messages as Messages
use Rattle.ticks.specs.Ticks.{distance_of}
use Rattle.gamenet_snap.specs.declared.SnapMsg.{SnapMsg}
use Rattle.gamenet_snap.specs.declared.SnapMsg.TheVariants as msg

-- the numbers of a message
abbrev pub numbers : SnapMsg → Messages.SnapMsg
numbers (msg.Snap tick d n part crc) = Messages.Snap tick.0 (distance_of d) n part crc
numbers (msg.SnapEmpty tick d) = Messages.SnapEmpty tick.0 (distance_of d)
numbers (msg.SnapSingle tick d crc) = Messages.SnapSingle tick.0 (distance_of d) crc
