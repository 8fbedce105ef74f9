-- `checked::push` meets its contract: what its steps leave is the table before the others. Assumes nothing.
use Rattle.store_area.proofs.Laying.{lays-first, pushes}
use Rattle.store_area.specs.Held.{snaps_in}
use mathlib.Core.Path.{◌∙◌}
use mir.Facts.{to_z-of_z}
use mir.Syntax.{w32}
use Rattle.store_area.proofs.checked.push.Goals as goal

pub returns : goal.returns
returns c t w =
    let f = c in
    let p = c in
    let h = c in
    let s = c in
    let a = s.args.area.now in
    let u = s.args.table.now in
    let l = snaps_in s.args.count a in
    let n = s.args.tick.0 in
    lays-first a s.args.ints u s.requires.2 n h.shift.new.area p.put.new.area f.copy_into.new.out
    f.copy_into.result h.shift.ensures (rw (to_z-of_z {w = w32} {z = n} (record { sfits = p.struct_told-1.given.0.1 })) at p.put.ensures) f.copy_into.ensures
    ∙ pushes a l s.requires.0.stands s.args.ints u n t s.requires.1 w s.requires.2
