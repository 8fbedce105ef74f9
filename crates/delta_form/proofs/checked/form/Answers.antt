-- `checked::form` meets its contract: each test is part of the form. Assumes nothing.
use borrow.Author.Tests.{not-true, not-false}
use mathlib.Core.Path.{sym, ◌∙◌}
use Rattle.delta_form.proofs.Turns.{ended, no_keys, no-updates, all-passed}
use native.Mathlib.Omega.{arith}
use Rattle.delta_form.specs.Forms.{bad, good}
use Rattle.delta_form.proofs.checked.form.Goals as goal

pub returns-then-area-lt3 : goal.returns-then-area-lt3
returns-then-area-lt3 c = bad _ _ (λ s. omega arith)

pub returns-then-nat_at-ne0 : goal.returns-then-nat_at-ne0
returns-then-nat_at-ne0 c = bad _ _ (λ s. omega arith)

pub returns-then-deleted-gt4294967295 : goal.returns-then-deleted-gt4294967295
returns-then-deleted-gt4294967295 c = bad _ _ (λ s. omega arith)

pub returns-then-updated-gt4294967295 : goal.returns-then-updated-gt4294967295
returns-then-updated-gt4294967295 c = bad _ _ (λ s. omega arith)

pub returns-then-area-deleted : goal.returns-then-area-deleted
returns-then-area-deleted c = bad _ _ (λ s. omega arith)

pub returns-then-not-deleted_fit : goal.returns-then-not-deleted_fit
returns-then-not-deleted_fit c =
    let e = sym (not-true _ c.if-not-deleted_fit.true-raw) ∙ c.deleted_fit.ensures in
    bad _ _ (no_keys _ _ _ _ c.nat_at-deleted.ensures.0 c.nat_at-updated.ensures.0 e)

pub returns-in_err-ints : goal.returns-in_err-ints
returns-in_err-ints c =
    c.from_residual.ensures
    ∙ bad _ _ (no-updates _ _ _ _ c.nat_at-deleted.ensures.0 c.nat_at-updated.ensures.0 c.in_err-ints.ensures)

pub returns : goal.returns
returns c =
    let s = c.args in
    let k = c.nat_at-deleted.ensures.0 in
    let u = c.nat_at-updated.ensures.0 in
    let d = sym (not-false _ c.if-not-deleted_fit.false-raw) ∙ c.deleted_fit.ensures in
    let e = ended s.sizes.now s.area.now _ _ _ _ c.in_ok-ints.ensures in
    good _ _ _ _ _ (all-passed _ _ _ _ k u (omega arith) (omega arith) (omega arith) (omega arith) d e.0) k u e.1
