-- `Storage::add_snap` meets its contract: by the forms of the store and the table, and by the count of tables. Assumes nothing.
use Rattle.definitions.specs.Tables.{items, table_of}
use Rattle.format.specs.declared.Error.TheVariants as error
use Rattle.laws.specs.TableShape.{some_is}
use Rattle.laws.specs.AddingLaws.{add-47, add-held}
use Rattle.storage.proofs.Calls.{full-44, with-key, not-added-by}
use Rattle.store_area.specs.Stores.{not-held, told, Told}
use Rattle.storage.specs.States.{store_of}
use Rattle.table.specs.Forms.{formed, unformed}
use Rattle.table.specs.Held.{form_of}
use mathlib.Core.Logic.{inl, inr}
use mathlib.Core.Option.{some}
use mathlib.Core.Path.{◌≡◌, sym, ◌∙◌}
use native.Mathlib.Omega.{arith}
use Rattle.std.specs.Prelude.{Some}
use Rattle.storage.proofs.Storage.add_snap.Goals as goal

pub returns-in_default : goal.returns-in_default
returns-in_default c =
    let it =
    let s = c.args in
    let r = c.not_added in
    let h = not-held _ _ (sym c.in_default.is ∙ c.form.ensures) in
    not-added-by (store_of s.self) s.area.now s.tick.0 s.table.now s.delta.now r.result error.NotInForm r.ensures.0 r.ensures.1
    (λ e. omega (arith, e)) (add-47 (store_of s.self) s.area.now s.tick.0 s.table.now s.delta.now (inl h)) in
    record { delta_value = it.0; answer_value = it.1 }

pub returns-in_default-form : goal.returns-in_default-form
returns-in_default-form c =
    let it =
    let s = c.args in
    let r = c.not_added-in_default-form in
    let t = unformed s.table.now (sym c.in_default-form.is ∙ c.form-2.ensures) in
    not-added-by (store_of s.self) s.area.now s.tick.0 s.table.now s.delta.now r.result error.NotInForm r.ensures.0 r.ensures.1
    (λ e. omega (arith, e)) (add-47 (store_of s.self) s.area.now s.tick.0 s.table.now s.delta.now (inr t)) in
    record { delta_value = it.0; answer_value = it.1 }

pub returns-then-self-eq-MAX_STORED_SNAPSHOT : goal.returns-then-self-eq-MAX_STORED_SNAPSHOT
returns-then-self-eq-MAX_STORED_SNAPSHOT c =
    let it =
    let in-form : let s = c.args in Told (store_of s.self) s.area.now c.in-Some.ints =
    told _ _ _ (sym c.in-Some.is ∙ c.form.ensures) in
    let new_told : let t = c.args.table.now in let k = c in
    Some c.in-Some-form.form ≡ form_of (table_of t) =
    sym c.in-Some-form.is ∙ c.form-2.ensures in
    let table_is : let t = c.args.table.now in table_of t ≡ some (items t) =
    some_is _ (formed _ _ _ (new_told)).0.shape in
    let d = c in
    let s = d.args in
    let r = c.not_added-then-self-eq-MAX_STORED_SNAPSHOT in
    let h = in-form in
    not-added-by (store_of s.self) s.area.now s.tick.0 s.table.now s.delta.now r.result error.StoreFull r.ensures.0 r.ensures.1
    (λ e. omega (arith, e))
    (add-held (store_of s.self) s.area.now s.tick.0 s.table.now s.delta.now _ _ h.is (table_is)
    ∙ full-44 (store_of s.self) s.area.now _ h.holds c.if-self-eq-MAX_STORED_SNAPSHOT.true _ s.delta.now) in
    record { delta_value = it.0; answer_value = it.1 }

pub add-requires : goal.add-requires
add-requires c =
    let in-form : let s = c.args in Told (store_of s.self) s.area.now c.in-Some.ints =
    told _ _ _ (sym c.in-Some.is ∙ c.form.ensures) in
    let new_told : let t = c.args.table.now in let k = c in
    Some c.in-Some-form.form ≡ form_of (table_of t) =
    sym c.in-Some-form.is ∙ c.form-2.ensures in
    let t = (in-form).holds in
    (t, omega (arith, t.few), new_told)

pub returns : goal.returns
returns c =
    let it =
    let in-form : let s = c.args in Told (store_of s.self) s.area.now c.in-Some.ints =
    told _ _ _ (sym c.in-Some.is ∙ c.form.ensures) in
    let new_told : let t = c.args.table.now in let k = c in
    Some c.in-Some-form.form ≡ form_of (table_of t) =
    sym c.in-Some-form.is ∙ c.form-2.ensures in
    let table_is : let t = c.args.table.now in table_of t ≡ some (items t) =
    some_is _ (formed _ _ _ (new_told)).0.shape in
    let d = c in
    let x = d.args in
    let e = c.add.ensures in
    let h = in-form in
    with-key (store_of x.self) x.area.now x.tick.0 x.table.now x.delta.now c.add.result
    (add-held (store_of x.self) x.area.now x.tick.0 x.table.now x.delta.now _ _ h.is (table_is) ∙ e.delta_value)
    (rw h.is e.answer_value) in
    record { delta_value = it.0; answer_value = it.1 }
