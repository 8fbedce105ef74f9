-- `checked::take` meets its contract: refusal by refusal. Assumes nothing.
use Rattle.delta_form.specs.Forms as DeltaForms
use Rattle.delta_form.specs.Held.{HeldDelta}
use Rattle.store_area.specs.Stores.{not-held, told, Told}
use Rattle.storage.proofs.Takes.{take-47, delta-47, take-41, take_all}
use Rattle.storage.specs.States.{store_of}
use Rattle.storage.specs.Taking.{sum_of}
use lib.IntN.{ℤ}
use lib.ListN.{length}
use mathlib.Core.List.{List, []}
use mathlib.Core.Path.{sym, ◌∙◌}
use Rattle.storage.proofs.checked.take.Goals as goal

pub returns-in_default : goal.returns-in_default
returns-in_default c =
    let x = c.args in
    let a = x.area.now in
    take-47 (store_of x.s) a (sum_of x.m) x.m.delta_tick.0 x.m.tick.0 x.delta.now (length x.scratch.now)
    (not-held _ _ (sym c.in_default.is ∙ c.form.ensures))
    ∙ c.not_taken.ensures a

pub returns-in_default-form : goal.returns-in_default-form
returns-in_default-form c =
    let in-form : let x = c.args in Told (store_of x.s) x.area.now c.in-Some.ints =
    told _ _ _ (sym c.in-Some.is ∙ c.form.ensures) in
    let x = c.args in
    let a = x.area.now in
    delta-47 (store_of x.s) a (sum_of x.m) x.m.delta_tick.0 x.m.tick.0 x.delta.now (length x.scratch.now)
    (in-form).is (DeltaForms.not-held _ (sym c.in_default-form.is ∙ c.form-2.ensures))
    ∙ c.not_taken-in_default-form.ensures a

pub returns-then-scratch-lt16384 : goal.returns-then-scratch-lt16384
returns-then-scratch-lt16384 c =
    let in-form : let x = c.args in Told (store_of x.s) x.area.now c.in-Some.ints =
    told _ _ _ (sym c.in-Some.is ∙ c.form.ensures) in
    let D : List ℤ =
    c.args.delta.now in
    let held : let k = c in HeldDelta [] (D) c.in-Some-form.form.deleted c.in-Some-form.form.updated =
    (DeltaForms.formed [] (D) _ _ _ (sym c.in-Some-form.is ∙ c.form-2.ensures)).0 in
    let d = c in
    let n = c in
    let x = n.args in
    let a = x.area.now in
    take-41 (store_of x.s) a (sum_of x.m) x.m.delta_tick.0 x.m.tick.0 x.delta.now (length x.scratch.now)
    (in-form).is _ (DeltaForms.is_held _ _ _ (held)) c.if-scratch-lt16384.true
    ∙ c.not_taken-then-scratch-lt16384.ensures a

pub take_judged-requires : goal.take_judged-requires
take_judged-requires c =
    let in-form : let x = c.args in Told (store_of x.s) x.area.now c.in-Some.ints =
    told _ _ _ (sym c.in-Some.is ∙ c.form.ensures) in
    let D : List ℤ =
    c.args.delta.now in
    let held : let k = c in HeldDelta [] (D) c.in-Some-form.form.deleted c.in-Some-form.form.updated =
    (DeltaForms.formed [] (D) _ _ _ (sym c.in-Some-form.is ∙ c.form-2.ensures)).0 in
    let d = c in
    ((in-form).holds, held, c.if-scratch-lt16384.false)

pub returns : goal.returns
returns c =
    let in-form : let x = c.args in Told (store_of x.s) x.area.now c.in-Some.ints =
    told _ _ _ (sym c.in-Some.is ∙ c.form.ensures) in
    let D : List ℤ =
    c.args.delta.now in
    let held : let k = c in HeldDelta [] (D) c.in-Some-form.form.deleted c.in-Some-form.form.updated =
    (DeltaForms.formed [] (D) _ _ _ (sym c.in-Some-form.is ∙ c.form-2.ensures)).0 in
    let d = c in
    let n = c in
    let x = n.args in
    let a = x.area.now in
    take_all (store_of x.s) a (sum_of x.m) x.m.delta_tick.0 x.m.tick.0 x.delta.now (length x.scratch.now)
    (in-form).is _ (DeltaForms.is_held _ _ _ (held)) c.if-scratch-lt16384.false
    ∙ c.take_judged.ensures
