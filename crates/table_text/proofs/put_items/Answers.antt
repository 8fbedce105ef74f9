use mathlib.Core.Path.{refl, ◌∙◌}
use native.Mathlib.Omega.{arith}
use mir.Facts.{to_z-of_z}
use Rattle.table_text.proofs.Texts.{none-put, item-put, all-put}
use Rattle.std.proofs.Common.{w32}
use Rattle.table_text.proofs.put_items.Goals as goal

pub loop-i-init : goal.loop-i-init
loop-i-init c = none-put _ _

pub loop-i-preserved : goal.loop-i-preserved
loop-i-preserved c =
    let l = c.loop-i in
    let k = c.key_at-key in
    let d = c.data_at-count in
    let p = c.put_item-end in
    item-put c.args.area.now l.i _ _ _ _ k.ensures d.ensures refl l.invariant (rw (to_z-of_z {w = w32} (record { sfits = k.type_inv })) at p.ensures)

pub returns : goal.returns
returns c =
    let l = c.loop-i in
    all-put _ _ c.requires l.i _ (omega arith) (omega arith) l.invariant
