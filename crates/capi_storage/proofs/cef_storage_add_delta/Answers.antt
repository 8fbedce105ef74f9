-- `capi_storage::cef_storage_add_delta` meets its contract: by what `add_delta` answered. Assumes nothing.
use mathlib.Core.Path.{sym, ap, ◌∙◌}
use lib.ListN.{length}
use mir.Facts.{to_z-of_z}
use Rattle.definitions.specs.StorageCalls.{add_delta_call}
use Rattle.format.specs.Totals.{counts, row}
use Rattle.boundary.specs.Boundary.{given}
use Rattle.boundary_states.specs.Rows.{held_store}
use Rattle.boundary_states.specs.Few.{delta-fits, fits-before}
use Rattle.capi_storage.proofs.Calls.{delta-moved, fits_after, told, taken-warned, taken-number}
use Rattle.std.proofs.Common.{w32}
use Rattle.capi_storage.proofs.cef_storage_add_delta.Goals as goal

pub save_storage-requires : goal.save_storage-requires
save_storage-requires c =
    let a = c.args in
    let f = c.ranges in
    let l = c.load_storage-s in
    let e = delta-moved a.area.now a.delta.now (length a.scratch.now) l.ensures.result_value (ap (given a.has_crc) (to_z-of_z {w = w32} f.crc)) (to_z-of_z {w = w32} f.delta_tick) (to_z-of_z {w = w32} f.tick) c.add_delta-taking.ensures.0 in
    fits_after (add_delta_call (held_store a.ticks.now a.counts.now) a.area.now (given a.has_crc a.crc) a.delta_tick a.tick a.delta.now (length a.scratch.now)) e (delta-fits (held_store a.ticks.now a.counts.now) a.area.now (fits-before l.ensures.result_value l.ensures.count_bound) (given a.has_crc a.crc) a.delta_tick a.tick a.delta.now (length a.scratch.now))

pub returns : goal.returns
returns c =
    let a = c.args in
    let f = c.ranges in
    let l = c.load_storage-s in
    let e = delta-moved a.area.now a.delta.now (length a.scratch.now) l.ensures.result_value (ap (given a.has_crc) (to_z-of_z {w = w32} f.crc)) (to_z-of_z {w = w32} f.delta_tick) (to_z-of_z {w = w32} f.tick) c.add_delta-taking.ensures.0 in
    let s = c.add_delta-taking in record { told = told (add_delta_call (held_store a.ticks.now a.counts.now) a.area.now (given a.has_crc a.crc) a.delta_tick a.tick a.delta.now (length a.scratch.now)) e _ c.save_storage.ensures (c.number.ensures ∙ taken-number s.result.answer (counts s.result.warnings)) (c.row.ensures ∙ ap row (sym (taken-warned s.result.answer (counts s.result.warnings)))); scratch_after = s.ensures.1 }
