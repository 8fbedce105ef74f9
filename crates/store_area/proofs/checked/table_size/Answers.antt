-- `checked::table_size` meets its contract: test by test. Assumes nothing.
use Rattle.store_area.proofs.Forms.{too_few, too_long, no_table, other_length, table_is}
use mathlib.Core.Path.{sym, ◌∙◌}
use native.Mathlib.Omega.{arith}
use Rattle.store_area.proofs.checked.table_size.Goals as goal

pub returns-then-area-p-lt2 : goal.returns-then-area-p-lt2
returns-then-area-p-lt2 c = too_few c.args.area.now c.args.p c.if-area-p-lt2.true

pub returns-then-area-from : goal.returns-then-area-from
returns-then-area-from c =
    let s = c in
    too_long s.args.area.now s.args.p (omega arith) (omega (arith, c.nat_at-size.ensures))

pub returns-in_default : goal.returns-in_default
returns-in_default c =
    let n = c in
    let x = n.args in
    let k = n.nat_at-size in
    no_table x.area.now x.p (omega arith) k.result k.ensures.0 (sym c.in_default.is ∙ c.form.ensures)

pub returns-then-form-size : goal.returns-then-form-size
returns-then-form-size c =
    let n = c in
    let x = n.args in
    let k = n.nat_at-size in
    let f = sym c.in-Some.is ∙ c.form.ensures in
    table_is x.area.now x.p (omega arith) k.result k.ensures.0 _ _ f c.if-form-size.true

pub returns : goal.returns
returns c =
    let n = c in
    let x = n.args in
    let k = n.nat_at-size in
    let f = sym c.in-Some.is ∙ c.form.ensures in
    other_length x.area.now x.p (omega arith) k.result k.ensures.0 _ _ f c.if-form-size.false
