-- `checked::hold_made` meets its contract: by what the delta made, and by its sum. Assumes nothing.
use Rattle.definitions.specs.Outcome.{Outcome, ok}
use Rattle.definitions.specs.Storage as Store
use Rattle.definitions.specs.StorageCalls.{laid_out}
use Rattle.definitions.specs.Tables.{Table, items, table_of}
use Rattle.format.specs.Totals.{counts}
use Rattle.storage.proofs.Deltas.{made_ok, made-err, made-form, refused-taken, wrong-sum}
use Rattle.storage.specs.States.{store_of}
use Rattle.store_area.specs.Stores.{holds_in}
use Rattle.storage.specs.Taking.{sum_of, warned}
use Rattle.table.specs.Forms.{formed}
use Rattle.table.specs.Held.{form_of}
use Rattle.table.specs.Writing.{form-front, form-length}
use Rattle.typed_applying.specs.Answers.{typed_table, table_with}
use lib.IntN.{ℤ}
use lib.ListN.{length}
use mathlib.Core.List.{List}
use mathlib.Core.Path.{◌≡◌, sym, ap, ◌∙◌}
use native.Mathlib.Omega.{arith}
use Rattle.std.specs.Prelude.{Some}
use Rattle.storage.proofs.checked.hold_made.Goals as goal

pub sum_fits-requires : goal.sum_fits-requires
sum_fits-requires c =
    let told : let s = c in let t = c in
    Some c.in-Ok.form ≡ form_of (table_of s.args.scratch.now) =
    let s = c in
    made-form s.args.scratch.now s.args.made.table _ c.in-Ok.is s.requires.1 in
    (formed _ _ _ (told)).0

pub slice_bounds-hold-end : goal.slice_bounds-hold-end
slice_bounds-hold-end c =
    let told : let s = c in let t = c in
    Some c.in-Ok.form ≡ form_of (table_of s.args.scratch.now) =
    let s = c in
    made-form s.args.scratch.now s.args.made.table _ c.in-Ok.is s.requires.1 in
    form-length _ (told)

pub hold-requires : goal.hold-requires
hold-requires c =
    let told : let s = c in let t = c in
    Some c.in-Ok.form ≡ form_of (table_of s.args.scratch.now) =
    let s = c in
    made-form s.args.scratch.now s.args.made.table _ c.in-Ok.is s.requires.1 in
    let t = told in
    let f = formed _ _ _ t in
    (c.requires.0, omega (arith, form-length _ t, f.1, f.0.shape.short))

pub returns-then-sum_fits : goal.returns-then-sum_fits
returns-then-sum_fits c =
    let A : List ℤ =
    c.args.area.now in
    let T : Table =
    items c.args.scratch.now in
    let counted : let s = c in let x = s.args in
    warned x.m.delta_tick.0 (typed_table (T) x.made) ≡ table_with (T) x.made.table (counts c.taken_warnings-warnings.result) =
    c.taken_warnings-warnings.ensures (T) in
    let made : let s = c in let x = s.args in
    warned x.m.delta_tick.0 (typed_table (T) x.made) ≡ ok (T) (counts c.taken_warnings-warnings.result) =
    let s = c in
    let w = c in
    made_ok s.args.m.delta_tick.0 s.args.made (T) (counts w.taken_warnings-warnings.result) (counted) _ c.in-Ok.is in
    let told : let s = c in let t = c in
    Some c.in-Ok.form ≡ form_of (table_of s.args.scratch.now) =
    let s = c in
    made-form s.args.scratch.now s.args.made.table _ c.in-Ok.is s.requires.1 in
    let d = c in
    let s = c in
    let x = s.args in
    let h = holds_in (store_of x.s) (A) in
    let f = sym c.sum_fits.ensures ∙ c.if-sum_fits.true in
    ap (λ (o : Outcome Table). laid_out (A) (Store.add_table (length (A)) (sum_of x.m) x.m.tick.0 h o)) (made)
    ∙ c.hold.ensures (T) (sum_of x.m) (sym (form-front _ (told))) f

pub returns-in-Err : goal.returns-in-Err
returns-in-Err c =
    let A : List ℤ =
    c.args.area.now in
    let T : Table =
    items c.args.scratch.now in
    let counted : let s = c in let x = s.args in
    warned x.m.delta_tick.0 (typed_table (T) x.made) ≡ table_with (T) x.made.table (counts c.taken_warnings-warnings.result) =
    c.taken_warnings-warnings.ensures (T) in
    let s = c in
    let x = s.args in
    let w = c in
    let t = c in
    refused-taken x.s (A) x.ints s.requires.0 (length (A)) (sum_of x.m) x.m.tick.0 c.in-Err.error w.taken_warnings-warnings.result _
    (made-err x.m.delta_tick.0 x.made (T) (counts w.taken_warnings-warnings.result) (counted) c.in-Err.error c.in-Err.is)

pub returns-else-sum_fits : goal.returns-else-sum_fits
returns-else-sum_fits c =
    let A : List ℤ =
    c.args.area.now in
    let T : Table =
    items c.args.scratch.now in
    let counted : let s = c in let x = s.args in
    warned x.m.delta_tick.0 (typed_table (T) x.made) ≡ table_with (T) x.made.table (counts c.taken_warnings-warnings.result) =
    c.taken_warnings-warnings.ensures (T) in
    let made : let s = c in let x = s.args in
    warned x.m.delta_tick.0 (typed_table (T) x.made) ≡ ok (T) (counts c.taken_warnings-warnings.result) =
    let s = c in
    let w = c in
    made_ok s.args.m.delta_tick.0 s.args.made (T) (counts w.taken_warnings-warnings.result) (counted) _ c.in-Ok.is in
    let d = c in
    let s = c in
    let x = s.args in
    let w = d.taken_warnings-warnings.result in
    wrong-sum x.s c.without_ack.result (A) x.ints s.requires.0 _ (sum_of x.m) x.m.tick.0 w (T) _ (made)
    (sym c.sum_fits.ensures ∙ c.if-sum_fits.false) c.without_ack.ensures
