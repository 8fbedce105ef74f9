-- `capi_storage::cef_storage_set_delta_tick` meets its contract: by what `set_delta_tick` answered. Assumes nothing.
use mathlib.Core.Path.{sym, ap, ◌∙◌}
use mir.Facts.{to_z-of_z}
use Rattle.definitions.specs.StorageCalls.{set_delta_tick_call}
use Rattle.format.specs.Totals.{counts, row}
use Rattle.boundary_states.specs.Rows.{held_store}
use Rattle.boundary_states.specs.Few.{set-fits, fits-before}
use Rattle.capi_storage.proofs.Calls.{set-moved, fits_after, told, set-warned, set-number}
use Rattle.std.proofs.Common.{w32}
use Rattle.capi_storage.proofs.cef_storage_set_delta_tick.Goals as goal

pub save_storage-requires : goal.save_storage-requires
save_storage-requires c =
    let a = c.args in
    let l = c.load_storage-s in
    let e = set-moved a.area.now l.ensures.result_value (to_z-of_z {w = w32} c.ranges.tick) c.set_delta_tick-set.ensures in
    fits_after (set_delta_tick_call (held_store a.ticks.now a.counts.now) a.area.now a.tick) e (set-fits (held_store a.ticks.now a.counts.now) a.area.now (fits-before l.ensures.result_value l.ensures.count_bound) a.tick)

pub returns : goal.returns
returns c =
    let a = c.args in
    let l = c.load_storage-s in
    let e = set-moved a.area.now l.ensures.result_value (to_z-of_z {w = w32} c.ranges.tick) c.set_delta_tick-set.ensures in
    let s = c.set_delta_tick-set.result in
    told (set_delta_tick_call (held_store a.ticks.now a.counts.now) a.area.now a.tick) e _ c.save_storage.ensures (c.number.ensures ∙ set-number s.answer (counts s.warnings)) (c.row.ensures ∙ ap row (sym (set-warned s.answer (counts s.warnings))))
