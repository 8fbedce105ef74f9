-- `checked::write_update` meets its contract: head, size and differences were written. Assumes nothing.
use mathlib.Core.Path.{◌∙◌}
use mir.Facts.{to_z-of_z}
use Rattle.delta_reading.proofs.Turns.{size-inside, sized-written}
use Rattle.std.proofs.Common.{w32}
use Rattle.delta_reading.proofs.checked.write_update.Goals as goal

pub bounds-out-size_place : goal.bounds-out-size_place
bounds-out-size_place c =
    let s = c.args in
    size-inside s.sizes.now s.src.now s.p c.requires.0 s.at s.out.now _ _ c.requires.1 c.copy_into.ensures

pub returns : goal.returns
returns c =
    let s = c.args in
    sized-written s.sizes.now s.src.now s.p c.requires.0 s.at s.out.now _ _ c.requires.1 c.copy_into.ensures _ _ _ _ (to_z-of_z {w = w32} (record { sfits = c.size_int.type_inv }) ∙ c.size_int.ensures) c.update_data-data.ensures c.copy_into-2.ensures
