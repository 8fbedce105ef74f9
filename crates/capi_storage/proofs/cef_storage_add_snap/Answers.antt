-- `capi_storage::cef_storage_add_snap` meets its contract: by what `add_snap` answered. Assumes nothing.
use mathlib.Core.Path.{ap, ◌∙◌}
use mir.Facts.{to_z-of_z}
use Rattle.definitions.specs.StorageCalls.{add_snap_call}
use Rattle.boundary.specs.Boundary.{key_or}
use Rattle.boundary_states.specs.Rows.{held_store}
use Rattle.boundary_states.specs.Few.{snap-fits, fits-before}
use Rattle.capi_storage.proofs.Calls.{snap-moved, clash-moved, fits-added, added-told}
use Rattle.std.proofs.Common.{w32}
use Rattle.capi_storage.proofs.cef_storage_add_snap.Goals as goal

pub save_storage-requires : goal.save_storage-requires
save_storage-requires c =
    let a = c.args in
    let l = c.load_storage-s in
    let t = to_z-of_z {w = w32} c.ranges.tick in
    let s = c.add_snap-added in
    let e = snap-moved a.area.now a.table.now a.delta.now l.ensures.result_value t s.ensures.delta_value in
    fits-added (add_snap_call (held_store a.ticks.now a.counts.now) a.area.now a.tick a.table.now a.delta.now) s.result.answer e (snap-fits (held_store a.ticks.now a.counts.now) a.area.now (fits-before l.ensures.result_value l.ensures.count_bound) a.tick a.table.now a.delta.now)

pub returns : goal.returns
returns c =
    let a = c.args in
    let l = c.load_storage-s in
    let t = to_z-of_z {w = w32} c.ranges.tick in
    let s = c.add_snap-added in
    let e = snap-moved a.area.now a.table.now a.delta.now l.ensures.result_value t s.ensures.delta_value in
    let d = clash-moved a.area.now a.table.now a.delta.now l.ensures.result_value t s.ensures.answer_value in
    let p = c.tell.ensures in
    let step = add_snap_call (held_store a.ticks.now a.counts.now) a.area.now a.tick a.table.now a.delta.now in record { told_added = added-told step s.result.answer e _ _ _ _ _ c.save_storage.ensures (p.value, (p.base_after, (p.count_after, p.clash_after))); clash_after = p.clash_after ∙ ap (key_or _) d }
