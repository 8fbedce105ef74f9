-- `checked::ends_fit` meets its contract. Assumes nothing.
use Rattle.std.proofs.Common.{eqb-true, eqb}
use Rattle.std.proofs.lemmas.Bool.{eqb-false}
use Prim.Native.Nat.{ℕ, ◌+◌, ◌-◌, ◌%◌}
use mathlib.Core.Path.{◌≡◌, refl, sym, ap, ◌∙◌, subst}
use mathlib.Core.Bool.{Bool, true, false}
use native.Mathlib.Omega.{arith}
use Rattle.definitions.specs.Tables.{all, ends}
use Rattle.laws.specs.TableShape.{fails}
use Rattle.table.specs.Offsets.{behind_at}
use Rattle.table.proofs.OffsetLaws.{tally-all, all-tally, ends-all, ends-aligned, ends_last, ends-behind, ends-whole}
use Rattle.table.proofs.checked.ends_fit.Goals as goal

pub returns-then-n-eq0 : goal.returns-then-n-eq0
unfolding all
returns-then-n-eq0 c = sym (subst (λ (m : ℕ). all (ends c.args.area.now) m ≡ true) (sym c.if-n-eq0.true) refl)

pub returns-then-size-ne0 : goal.returns-then-size-ne0
returns-then-size-ne0 c =
    sym (fails _ (λ e. c.if-size-ne0.true (ends-aligned c.args.area.now c.args.n c.args.size c.requires e (omega arith))))

pub returns-then-size-bits_at : goal.returns-then-size-bits_at
returns-then-size-bits_at c =
    sym (fails _ (λ e. absurd (omega (arith, c.bits_at.ensures.0, c.if-size-bits_at.true, ends_last c.args.area.now c.args.n c.args.size c.requires e (omega arith)))))

pub returns-then-offsets-ne0 : goal.returns-then-offsets-ne0
returns-then-offsets-ne0 c =
    sym (fails _ (λ e. c.if-offsets-ne0.true (ap (λ (x : ℕ). x % 4) c.join_offsets-offsets.ensures.1 ∙ ends-whole c.args.area.now c.args.n c.args.size c.requires e)))

pub returns : goal.returns
returns c = go (eqb (c.join_offsets-offsets.result.behind + 1) c.args.n) refl
  where
    go : (b : Bool) → eqb (c.join_offsets-offsets.result.behind + 1) c.args.n ≡ b → b ≡ all (ends c.args.area.now) c.args.n
    go true e =
        let a = c.args.area.now in
        let f : c.join_offsets-offsets.result.behind + 1 ≡ c.args.n = eqb-true _ _ e in
        let b = tally-all (behind_at a) (c.args.n - 1) (omega (arith, c.join_offsets-offsets.ensures.0)) in
        let w = ap (λ (x : ℕ). x % 4) (sym c.join_offsets-offsets.ensures.1) ∙ c.if-offsets-ne0.false in
        sym (ends-all a c.args.n c.args.size c.requires b w (omega (arith, c.bits_at.ensures.0, c.if-size-bits_at.false)) c.if-size-ne0.false (omega arith))
    go false e =
        let a = c.args.area.now in
        let g = eqb-false (c.join_offsets-offsets.result.behind + 1) c.args.n e in
        sym (fails _ (λ e. g (omega (arith, c.join_offsets-offsets.ensures.0, all-tally (behind_at a) (c.args.n - 1) (ends-behind a c.args.n c.args.size c.requires e)))))
