-- `Storage::set_delta_tick` meets its contract: by the form of the store and the sign of the tick. Assumes nothing.
use Rattle.storage.proofs.Bases.{refused-47, no-base, set-held}
use Rattle.store_area.specs.Stores.{not-held, told, Told, holds_in}
use Rattle.storage.specs.States.{store_of}
use mathlib.Core.Path.{sym, ◌∙◌}
use Rattle.storage.proofs.Storage.set_delta_tick.Goals as goal

pub returns-in_default : goal.returns-in_default
returns-in_default c =
    let s = c.args in
    let h = not-held _ _ (sym c.in_default.is ∙ c.form.ensures) in
    refused-47 s.self s.area.now s.tick.0 c.none.result c.none.ensures h

pub returns-then-is_negative : goal.returns-then-is_negative
returns-then-is_negative c =
    let in-form : let s = c.args in Told (store_of s.self) s.area.now c.in-Some.ints =
    told _ _ _ (sym c.in-Some.is ∙ c.form.ensures) in
    let s = c in
    let t = in-form in
    let w = c.weird in
    no-base s.args.self s.args.area.now s.args.tick.0 w.result _ t.holds c.without_delta.result
    (sym c.is_negative.ensures ∙ c.if-is_negative.true) w.ensures c.without_delta.ensures

pub set_base-requires : goal.set_base-requires
set_base-requires c =
    let in-form : let s = c.args in Told (store_of s.self) s.area.now c.in-Some.ints =
    told _ _ _ (sym c.in-Some.is ∙ c.form.ensures) in
    ((in-form).holds, sym c.is_negative.ensures ∙ c.if-is_negative.false)

pub returns : goal.returns
returns c =
    let in-form : let s = c.args in Told (store_of s.self) s.area.now c.in-Some.ints =
    told _ _ _ (sym c.in-Some.is ∙ c.form.ensures) in
    let s = c in
    let t = in-form in
    set-held (store_of s.args.self) s.args.area.now s.args.tick.0 (holds_in (store_of s.args.self) s.args.area.now) t.is
    ∙ c.set_base.ensures
