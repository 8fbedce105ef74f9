-- `checked::judge` meets its contract: refusal by refusal. Assumes nothing.
use Rattle.gamenet_snap.specs.Numbers.{numbers}
use Rattle.manager.proofs.Messages.{receiver-47, store-47, scratch-41, parts-41, joined-41, judged}
use Rattle.receiver.specs.States.{receiver_of}
use Rattle.storage.specs.States.{store_of}
use Rattle.store_area.specs.Stores.{not-held, told, Told}
use borrow.Author.Tests.{not-true, not-false}
use lib.ListN.{length}
use mathlib.Core.Path.{sym, ◌∙◌}
use Rattle.manager.proofs.checked.judge.Goals as goal

pub returns-then-not-in_form : goal.returns-then-not-in_form
returns-then-not-in_form c =
    let a = c.args in
    receiver-47 a.sizes.now (receiver_of a.g.receiver) (record { numbers = numbers a.m; bytes = a.«data».now }) a.parts.now a.joined.now a.delta.now a.area.now (store_of a.g.storage) (length a.scratch.now) (sym c.in_form.ensures ∙ not-true _ c.if-not-in_form.true-raw) ∙ c.refused.ensures a.parts.now a.joined.now a.delta.now a.area.now

pub returns-in_default : goal.returns-in_default
returns-in_default c =
    let a = c.args in
    store-47 a.sizes.now (receiver_of a.g.receiver) (record { numbers = numbers a.m; bytes = a.«data».now }) a.parts.now a.joined.now a.delta.now a.area.now (store_of a.g.storage) (length a.scratch.now) (sym c.in_form.ensures ∙ not-false _ c.if-not-in_form.false-raw) (not-held _ _ (sym c.in_default.is ∙ c.form.ensures)) ∙ c.refused-in_default.ensures a.parts.now a.joined.now a.delta.now a.area.now

pub returns-then-scratch-lt-AREA_SIZE : goal.returns-then-scratch-lt-AREA_SIZE
returns-then-scratch-lt-AREA_SIZE c =
    let in-form : Told (store_of c.args.g.storage) c.args.area.now c.in-Some.ints =
    told _ _ _ (sym c.in-Some.is ∙ c.form.ensures) in
    let a = c.args in
    scratch-41 a.sizes.now (receiver_of a.g.receiver) (record { numbers = numbers a.m; bytes = a.«data».now }) a.parts.now a.joined.now a.delta.now a.area.now (store_of a.g.storage) (length a.scratch.now) (sym c.in_form.ensures ∙ not-false _ c.if-not-in_form.false-raw) (in-form).is c.if-scratch-lt-AREA_SIZE.true ∙ c.refused-then-scratch-lt-AREA_SIZE.ensures a.parts.now a.joined.now a.delta.now a.area.now

pub returns-then-parts-lt-AREA_SIZE : goal.returns-then-parts-lt-AREA_SIZE
returns-then-parts-lt-AREA_SIZE c =
    let in-form : Told (store_of c.args.g.storage) c.args.area.now c.in-Some.ints =
    told _ _ _ (sym c.in-Some.is ∙ c.form.ensures) in
    let a = c.args in
    parts-41 a.sizes.now (receiver_of a.g.receiver) (record { numbers = numbers a.m; bytes = a.«data».now }) a.parts.now a.joined.now a.delta.now a.area.now (store_of a.g.storage) (length a.scratch.now) (sym c.in_form.ensures ∙ not-false _ c.if-not-in_form.false-raw) (in-form).is c.if-scratch-lt-AREA_SIZE.false c.if-parts-lt-AREA_SIZE.true ∙ c.refused-then-parts-lt-AREA_SIZE.ensures a.parts.now a.joined.now a.delta.now a.area.now

pub returns-then-joined-lt-AREA_SIZE : goal.returns-then-joined-lt-AREA_SIZE
returns-then-joined-lt-AREA_SIZE c =
    let in-form : Told (store_of c.args.g.storage) c.args.area.now c.in-Some.ints =
    told _ _ _ (sym c.in-Some.is ∙ c.form.ensures) in
    let a = c.args in
    joined-41 a.sizes.now (receiver_of a.g.receiver) (record { numbers = numbers a.m; bytes = a.«data».now }) a.parts.now a.joined.now a.delta.now a.area.now (store_of a.g.storage) (length a.scratch.now) (sym c.in_form.ensures ∙ not-false _ c.if-not-in_form.false-raw) (in-form).is c.if-scratch-lt-AREA_SIZE.false c.if-parts-lt-AREA_SIZE.false c.if-joined-lt-AREA_SIZE.true ∙ c.refused-then-joined-lt-AREA_SIZE.ensures a.parts.now a.joined.now a.delta.now a.area.now

pub handle-requires : goal.handle-requires
handle-requires c =
    let in-form : Told (store_of c.args.g.storage) c.args.area.now c.in-Some.ints =
    told _ _ _ (sym c.in-Some.is ∙ c.form.ensures) in
    ((in-form).holds, c.if-scratch-lt-AREA_SIZE.false, c.if-joined-lt-AREA_SIZE.false)

pub returns : goal.returns
returns c =
    let in-form : Told (store_of c.args.g.storage) c.args.area.now c.in-Some.ints =
    told _ _ _ (sym c.in-Some.is ∙ c.form.ensures) in
    let a = c.args in
    judged a.sizes.now (receiver_of a.g.receiver) (record { numbers = numbers a.m; bytes = a.«data».now }) a.parts.now a.joined.now a.delta.now a.area.now (store_of a.g.storage) (length a.scratch.now) (sym c.in_form.ensures ∙ not-false _ c.if-not-in_form.false-raw) (in-form).is c.if-scratch-lt-AREA_SIZE.false c.if-parts-lt-AREA_SIZE.false c.if-joined-lt-AREA_SIZE.false ∙ c.handle.ensures
