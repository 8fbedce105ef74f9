-- Three ints that are stored one after the other. Assumes nothing.
use Prim.Native.Nat.{ℕ, ◌+◌, ◌≤◌}
use mathlib.Core.Path.{◌≡◌, sym, ap, ap₂, ◌∙◌}
use mathlib.Core.List.{List, [], ◌∷◌}
use native.Mathlib.Omega.{arith}
use lib.IntN.{ℤ}
use lib.ListN.{length, set, length-set}
use Rattle.definitions.specs.Areas.{lay_at}
use Rattle.laws.specs.AreaLaws.{lay_at-set, lay_at-nothing}

pub three-laid : (o o₁ o₂ o₃ : List ℤ) (at : ℕ) (x y z : ℤ) → at + 3 ≤ length o → o₁ ≡ set o at x → o₂ ≡ set o₁ (at + 1) y → o₃ ≡ set o₂ (at + 2) z → o₃ ≡ lay_at at (x ∷ y ∷ z ∷ []) o
three-laid o o₁ o₂ o₃ at x y z h e f g =
    let n₁ : length o₁ ≡ length o = ap length e ∙ length-set o at x in
    let n₂ : length o₂ ≡ length o₁ = ap length f ∙ length-set o₁ (at + 1) y in
    let k : at + 1 + 1 ≡ at + 2 = omega arith in
    sym
    (lay_at-set at x (y ∷ z ∷ []) o (omega arith)
    ∙ (ap (lay_at (at + 1) (y ∷ z ∷ [])) (sym e)
    ∙ (lay_at-set (at + 1) y (z ∷ []) o₁ (omega arith)
    ∙ (ap₂ (λ (i : ℕ) (l : List ℤ). lay_at i (z ∷ []) l) k (sym f)
    ∙ (lay_at-set (at + 2) z [] o₂ (omega arith) ∙ (lay_at-nothing (at + 2 + 1) (set o₂ (at + 2) z) ∙ sym g))))))
