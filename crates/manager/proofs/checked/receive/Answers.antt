-- `checked::receive` meets its contract, message by message. Assumes nothing.
use Rattle.manager.proofs.Messages.{by_part, by-single, by-empty}
use Rattle.receiver.specs.States.{receiver_of}
use mir.Facts.{to_z-of_z}
use mir.Syntax.{w32}
use Rattle.std.proofs.Common.{SFits, rules}
use Rattle.manager.proofs.checked.receive.Goals as goal

pub returns-in-Snap : goal.returns-in-Snap
returns-in-Snap c =
    let a = c.args in
    let num : SFits w32 c.in-Snap.num_parts = search rules in
    let part : SFits w32 c.in-Snap.part = search rules in
    let crc : SFits w32 c.in-Snap.crc = search rules in
    by_part (receiver_of a.r) a.m a.«data».now a.parts.now a.joined.now _ c.in-Snap.tick c.in-Snap.delta_tick c.in-Snap.num_parts c.in-Snap.part c.in-Snap.crc _ _ _ (to_z-of_z num) (to_z-of_z part) (to_z-of_z crc) c.in-Snap.is c.snap.ensures

pub returns-in-SnapEmpty : goal.returns-in-SnapEmpty
returns-in-SnapEmpty c =
    let a = c.args in
    by-empty (receiver_of a.r) a.m a.«data».now a.parts.now a.joined.now _ c.in-SnapEmpty.tick c.in-SnapEmpty.delta_tick c.in-SnapEmpty.is (c.snap_empty.ensures a.parts.now a.joined.now)

pub returns-in-SnapSingle : goal.returns-in-SnapSingle
returns-in-SnapSingle c =
    let a = c.args in
    let crc : SFits w32 c.in-SnapSingle.crc = search rules in
    by-single (receiver_of a.r) a.m a.«data».now a.parts.now a.joined.now _ c.in-SnapSingle.tick c.in-SnapSingle.delta_tick c.in-SnapSingle.crc _ (to_z-of_z crc) c.in-SnapSingle.is (c.snap_single.ensures a.parts.now)
