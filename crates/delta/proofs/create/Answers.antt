-- `delta::create` meets its contract: by the checks of both tables' forms. Assumes nothing.
use mathlib.Core.Path.{◌≡◌, refl, ◌∙◌}
use mathlib.Core.Logic.{inl, inr}
use mathlib.Core.List.{List}
use mathlib.Core.Option.{some}
use lib.IntN.{ℤ}
use Rattle.std.specs.Prelude.{Some, Err}
use Rattle.definitions.specs.Tables.{table_of, items}
use Rattle.laws.specs.TableShape.{some_is}
use Rattle.laws.specs.CreateLaws.{create-47, create-held}
use Rattle.table.specs.Held.{form_of}
use Rattle.table.specs.Forms.{formed, unformed}
use Rattle.table.specs.declared.checked.TableForm.{TableForm}
use Rattle.format.specs.declared.Error.TheVariants as error
use Rattle.delta_making.specs.declared.MakeError.TheVariants as made
use Rattle.delta.proofs.Calls.{with-key}
use Rattle.delta.proofs.create.Goals as goal

-- so it holds its items
holds : (a : List ℤ) {f : TableForm} → Some f ≡ form_of (table_of a) → table_of a ≡ some (items a)
holds a e = some_is a (formed a _ _ e).0.shape

pub returns-in_default : goal.returns-in_default
returns-in_default c =
    let s = c.args in
    let it =
    with-key s.base.now s.target.now s.out.now (Err (made.Refused error.NotInForm))
    (create-47 s.base.now s.target.now s.out.now (inl (unformed _ c.in_default.ensures))) refl in
    record { out_value = it.0; result_value = it.1 }

pub returns-in_default-form : goal.returns-in_default-form
returns-in_default-form c =
    let s = c.args in
    let it =
    with-key s.base.now s.target.now s.out.now (Err (made.Refused error.NotInForm))
    (create-47 s.base.now s.target.now s.out.now (inr (unformed _ c.in_default-form.ensures))) refl in
    record { out_value = it.0; result_value = it.1 }

pub create-requires : goal.create-requires
create-requires c = ((formed _ _ _ c.in-Some.ensures).0, (formed _ _ _ c.in-Some-form.ensures).0)

pub returns : goal.returns
returns c =
    let s = c.args in
    let it =
    with-key s.base.now s.target.now s.out.now c.create.result
    (create-held s.base.now s.target.now s.out.now _ _ (holds _ c.in-Some.ensures) (holds _ c.in-Some-form.ensures) ∙ c.create.ensures.target_value)
    c.create.ensures.result_value in
    record { out_value = it.0; result_value = it.1 }
