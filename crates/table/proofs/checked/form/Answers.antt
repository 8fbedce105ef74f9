use Rattle.table.specs.Forms.{bad, good}
use mathlib.Core.Path.{sym, ◌∙◌}
use mathlib.Core.Bool.{true≢false}
use Rattle.laws.specs.TableShape.{shape_of, shape-all}
use native.Mathlib.Omega.{arith}
use borrow.Author.Rules.{rules}
use Rattle.table.proofs.checked.form.Goals as goal

pub returns-then-area-lt2 : goal.returns-then-area-lt2
returns-then-area-lt2 c = bad _ (λ s. omega arith)

pub returns-then-n-gt1024 : goal.returns-then-n-gt1024
returns-then-n-gt1024 c = bad _ (λ s. omega arith)

pub returns-then-ints-gt16384 : goal.returns-then-ints-gt16384
returns-then-ints-gt16384 c = bad _ (λ s. omega arith)

pub returns-then-area-ints : goal.returns-then-area-ints
returns-then-area-ints c = bad _ (λ s. omega arith)

pub returns-then-edge-ne0 : goal.returns-then-edge-ne0
returns-then-edge-ne0 c = bad _ (λ s. omega arith)

pub returns-then-all_fit : goal.returns-then-all_fit
returns-then-all_fit c =
    good _ _ _ (shape_of _ _ (search rules) (search rules) (omega arith) (omega arith) (omega arith) (sym c.all_fit.ensures ∙ c.if-all_fit.true)) (search rules) (omega arith)

pub returns-else-all_fit : goal.returns-else-all_fit
returns-else-all_fit c =
    bad _ (λ s. true≢false (sym (shape-all _ _ (search rules) s) ∙ (sym c.all_fit.ensures ∙ c.if-all_fit.false)))
