-- `capi_manager::cef_manager_snap` meets its contract: by what `snap` answered. Assumes nothing.
use lib.ListN.{length}
use mir.Facts.{to_z-of_z}
use Rattle.definitions.specs.Messages.{Snap}
use Rattle.definitions.specs.Manager.{message_call}
use Rattle.boundary_states.specs.Rows.{held_receiver, held_store}
use Rattle.boundary_states.specs.Few.{message-fits, fits-before}
use Rattle.capi_manager.proofs.Calls.{part-named, moved, fits_after, told}
use Rattle.std.proofs.Common.{w32}
use Rattle.capi_manager.proofs.cef_manager_snap.Goals as goal

pub settle-requires : goal.settle-requires
settle-requires c =
    let a = c.args in
    let f = c.ranges in
    let l = c.load_storage-storage in
    let h = c.snap-h in
    let e = moved a.sizes.now a.«data».now a.parts.now a.joined.now a.delta.now a.area.now (length a.scratch.now) c.load_receiver-receiver.ensures l.ensures.result_value (part-named (to_z-of_z {w = w32} f.tick) (to_z-of_z {w = w32} f.distance) (to_z-of_z {w = w32} f.num_parts) (to_z-of_z {w = w32} f.part) (to_z-of_z {w = w32} f.crc)) h.ensures.0 in
    fits_after (message_call a.sizes.now (held_receiver a.receiver_ticks.now a.receiver_counts.now a.lengths.now) (held_store a.ticks.now a.counts.now) (record { numbers = Snap a.tick (record { ticks = a.distance }) a.num_parts a.part a.crc; bytes = a.«data».now }) a.parts.now a.joined.now a.delta.now a.area.now (length a.scratch.now)) h.result e (message-fits a.sizes.now (held_receiver a.receiver_ticks.now a.receiver_counts.now a.lengths.now) (held_store a.ticks.now a.counts.now) (record { numbers = Snap a.tick (record { ticks = a.distance }) a.num_parts a.part a.crc; bytes = a.«data».now }) a.parts.now a.joined.now a.delta.now a.area.now (length a.scratch.now) (fits-before l.ensures.result_value l.ensures.count_bound))

pub returns : goal.returns
returns c =
    let a = c.args in
    let f = c.ranges in
    let l = c.load_storage-storage in
    let h = c.snap-h in
    let e = moved a.sizes.now a.«data».now a.parts.now a.joined.now a.delta.now a.area.now (length a.scratch.now) c.load_receiver-receiver.ensures l.ensures.result_value (part-named (to_z-of_z {w = w32} f.tick) (to_z-of_z {w = w32} f.distance) (to_z-of_z {w = w32} f.num_parts) (to_z-of_z {w = w32} f.part) (to_z-of_z {w = w32} f.crc)) h.ensures.0 in record { told = told (message_call a.sizes.now (held_receiver a.receiver_ticks.now a.receiver_counts.now a.lengths.now) (held_store a.ticks.now a.counts.now) (record { numbers = Snap a.tick (record { ticks = a.distance }) a.num_parts a.part a.crc; bytes = a.«data».now }) a.parts.now a.joined.now a.delta.now a.area.now (length a.scratch.now)) h.result e _ _ _ _ c.settle.ensures; scratch_after = h.ensures.1 }
