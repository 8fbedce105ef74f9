-- `checked::names` meets its contract: int by int. Assumes nothing.
use native.Mathlib.Omega.{arith}
use borrow.Author.Tests.{lt-leb}
use mathlib.Core.Bool.{false≢true}
use mathlib.Core.Path.{refl, sym, ◌∙◌}
use Rattle.definitions.specs.Ints.{bits}
use Rattle.snap.proofs.Naming.{then-is, by-ints}
use Rattle.snap.proofs.checked.names.Goals as goal
use Rattle.snap.proofs.checked.names.Goals.{then-data-ge4, else-data-ge4, then-data-a, else-data-a, then-data-b, else-data-b}

pub returns-then-data-c : goal.returns-then-data-c
unfolding bits
returns-then-data-c c =
    let a = c.args in
    by-ints a.«data».now a.a a.b a.c a.d c.if-data-ge4.value c.if-data-a.value c.if-data-b.value _
    (λ l. elim c.if-data-ge4.branch [ then-data-ge4 w ↦ w.value-is | else-data-ge4 w ↦ absurd (omega arith) ])
    (λ l. elim c.if-data-ge4.branch [ then-data-ge4 w ↦ absurd (omega arith) | else-data-ge4 w ↦ w.value-is ∙ lt-leb 4 _ l ])
    (then-is _ _ _
    (λ e. elim c.if-data-a.branch [ then-data-a w ↦ w.value-is | else-data-a w ↦ absurd (false≢true (sym w.if-data-a.false ∙ e)) ])
    (λ e. elim c.if-data-a.branch [ then-data-a w ↦ absurd (false≢true (sym e ∙ w.if-data-a.true)) | else-data-a w ↦ w.value-is ∙ e ]))
    (then-is _ _ _
    (λ e. elim c.if-data-b.branch [ then-data-b w ↦ w.value-is | else-data-b w ↦ absurd (false≢true (sym w.if-data-b.false ∙ e)) ])
    (λ e. elim c.if-data-b.branch [ then-data-b w ↦ absurd (false≢true (sym e ∙ w.if-data-b.true)) | else-data-b w ↦ w.value-is ∙ e ]))
    (rw c.if-data-c.true refl)

pub returns-else-data-c : goal.returns-else-data-c
unfolding bits
returns-else-data-c c =
    let a = c.args in
    by-ints a.«data».now a.a a.b a.c a.d c.if-data-ge4.value c.if-data-a.value c.if-data-b.value _
    (λ l. elim c.if-data-ge4.branch [ then-data-ge4 w ↦ w.value-is | else-data-ge4 w ↦ absurd (omega arith) ])
    (λ l. elim c.if-data-ge4.branch [ then-data-ge4 w ↦ absurd (omega arith) | else-data-ge4 w ↦ w.value-is ∙ lt-leb 4 _ l ])
    (then-is _ _ _
    (λ e. elim c.if-data-a.branch [ then-data-a w ↦ w.value-is | else-data-a w ↦ absurd (false≢true (sym w.if-data-a.false ∙ e)) ])
    (λ e. elim c.if-data-a.branch [ then-data-a w ↦ absurd (false≢true (sym e ∙ w.if-data-a.true)) | else-data-a w ↦ w.value-is ∙ e ]))
    (then-is _ _ _
    (λ e. elim c.if-data-b.branch [ then-data-b w ↦ w.value-is | else-data-b w ↦ absurd (false≢true (sym w.if-data-b.false ∙ e)) ])
    (λ e. elim c.if-data-b.branch [ then-data-b w ↦ absurd (false≢true (sym e ∙ w.if-data-b.true)) | else-data-b w ↦ w.value-is ∙ e ]))
    (then-is _ _ _ (λ e. absurd (false≢true (sym c.if-data-c.false ∙ e))) (λ e. e))
