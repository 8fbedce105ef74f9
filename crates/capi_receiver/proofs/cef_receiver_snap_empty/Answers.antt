-- `capi_receiver::cef_receiver_snap_empty` meets its contract: by what `receive_empty` answered. Assumes nothing.
use mathlib.Core.List.{[]}
use mir.Facts.{to_z-of_z}
use Rattle.definitions.specs.Receiver.{snap_empty_call}
use Rattle.format.specs.Totals.{counts}
use Rattle.receiver.specs.Moves.{empty-moved}
use Rattle.boundary_states.specs.Rows.{held_receiver}
use Rattle.capi_receiver.proofs.Calls.{same-distance, taken-empty}
use Rattle.std.proofs.Common.{w32}
use Rattle.capi_receiver.proofs.cef_receiver_snap_empty.Goals as goal

pub returns : goal.returns
returns c =
    let it =
    let a = c.args in
    let f = c.ranges in
    let h = held_receiver a.ticks.now a.counts.now a.lengths.now in
    let o = snap_empty_call h a.tick (record { ticks = a.distance }) [] [] in
    let r = c.receive_empty-s.result in
    let e = empty-moved [] [] (c.load_ticks-r.ensures a.lengths.now) (to_z-of_z {w = w32} f.tick) (same-distance (to_z-of_z {w = w32} f.distance)) (c.receive_empty-s.ensures [] []) in
    let t = c.tell.ensures in
    taken-empty o r.answer (counts r.warnings) r.ticks e _ a.kind.now _ a.received.now _ a.len.now _ a.ticks.now _ a.counts.now _ _
    (t.value, (t.kind_after, (t.numbers_after, t.len_after))) c.put_ticks.ensures c.row.ensures in
    record { value = it.0; ticks_value = it.1.0; counts_after = it.1.1.0; lengths_after = it.1.1.1.0; kind_after = it.1.1.1.1.0; received_after = it.1.1.1.1.1.0; len_after = it.1.1.1.1.1.1.0; warnings_after = it.1.1.1.1.1.1.1 }
