-- `checked::base_tick` meets its contract: by which table is the base. Assumes nothing.
use Rattle.definitions.specs.Storage as Store
use Rattle.storage.proofs.Forms.{chosen-empty, chosen-itself, chosen-oldest}
use mathlib.Core.Path.{sym, ap, ◌∙◌}
use Rattle.storage.proofs.checked.base_tick.Goals as goal

pub returns-in_default : goal.returns-in_default
returns-in_default c t =
    let s = c.args in
    let e = chosen-empty s.s (record { tick = s.tick.0; snap = t }) _ c.in_default.is in
    ap (λ (y : Store.StoredSnap). y.tick) (sym e)

pub returns-then-s-eq0 : goal.returns-then-s-eq0
returns-then-s-eq0 c t =
    let s = c in
    let x = s.args in
    let n = c.in-Some.is in
    let e = chosen-itself x.s (record { tick = x.tick.0; snap = t }) _ x.s.count n s.requires.many c.if-s-eq0.true in
    ap (λ (y : Store.StoredSnap). y.tick) (sym e)

pub returns : goal.returns
returns c t =
    let s = c in
    let x = s.args in
    let n = c.in-Some.is in
    let e = chosen-oldest x.s (record { tick = x.tick.0; snap = t }) _ x.s.count n s.requires.many c.if-s-eq0.false in
    c.tick_at.ensures ∙ ap (λ (y : Store.StoredSnap). y.tick) (sym e)
