-- `Storage::snap_tick` meets its contract: by the form of the store and the count of tables. Assumes nothing.
use Rattle.storage.proofs.Forms.{tick-47, tick-there, tick-past}
use Rattle.store_area.specs.Stores.{not-held, told, Told}
use Rattle.storage.specs.States.{store_of}
use mathlib.Core.Path.{sym, ◌∙◌}
use native.Mathlib.Omega.{arith}
use Rattle.storage.proofs.Storage.snap_tick.Goals as goal

pub returns-in_default : goal.returns-in_default
returns-in_default c =
    let s = c.args in
    tick-47 (store_of s.self) s.area.now s.i (not-held _ _ (sym c.in_default.is ∙ c.form.ensures))

pub tick_at-requires : goal.tick_at-requires
tick_at-requires c =
    let in-form : let s = c.args in Told (store_of s.self) s.area.now c.in-Some.field-0 =
    told _ _ _ (sym c.in-Some.is ∙ c.form.ensures) in
    ((in-form).holds.held, omega (arith, c.if-i-self.true))

pub returns-then-i-self : goal.returns-then-i-self
returns-then-i-self c =
    let in-form : let s = c.args in Told (store_of s.self) s.area.now c.in-Some.field-0 =
    told _ _ _ (sym c.in-Some.is ∙ c.form.ensures) in
    let s = c.args in
    let t = in-form in
    tick-there (store_of s.self) s.area.now s.i t.holds.held t.is c.if-i-self.true ∙ rw c.tick_at.ensures

pub returns : goal.returns
returns c =
    let in-form : let s = c.args in Told (store_of s.self) s.area.now c.in-Some.field-0 =
    told _ _ _ (sym c.in-Some.is ∙ c.form.ensures) in
    let s = c.args in
    let t = in-form in
    tick-past (store_of s.self) s.area.now s.i t.holds.held t.is c.if-i-self.false
