-- No place has five bytes like those of an integer with padding bits set. Assumes nothing.
use mathlib.Core.Path.{◌≡◌, refl, sym, subst, ◌∙◌}
use mathlib.Core.Bool.{Bool, true, false, true≢false, ◌||◌}
use mathlib.Core.List.{List}
use mathlib.Core.Logic.{⊎_elim}
use Prim.Native.Nat.{ℕ, ◌+◌, ◌≤◌, ◌<◌}
use native.Mathlib.Omega.{arith}
use borrow.Author.Tests.{le-leb}
use lib.ListN.{length, get_or}
use Rattle.definitions.specs.Stream.{stream, is_padded}
use Rattle.laws.specs.Padding.{PaddedHere, no-padding}
use Rattle.laws.specs.Tests.{below}
use Rattle.packer.specs.Bytes.{padded_bytes}

module _ (src : List ℕ) where
  -- the five bytes from a place on
  abbrev pub five : ℕ → Bool
  five p = padded_bytes (get_or src p 0) (get_or src (p + 1) 0) (get_or src (p + 2) 0) (get_or src (p + 3) 0) (get_or src (p + 4) 0)

  -- unless some were found, there are none at the places below
  abbrev pub Passed : ℕ → Bool → Type 0
  Passed n found = found ≡ false → (p : ℕ) → p < n → PaddedHere src p → ⊥

  padded-five : (p : ℕ) → PaddedHere src p → five p ≡ true
  padded-five p h =
      let at : ℕ → ℕ = λ i. get_or src (p + i) 0 in
      rw (le-leb 128 (get_or src p 0) h.first, le-leb 128 (at 1) h.second, le-leb 128 (at 2) h.third)
      (rw (le-leb 128 (at 3) h.fourth, le-leb 16 (at 4) h.fifth))

  none_in : (a b : Bool) → (a || b) ≡ false → (a ≡ false) × (b ≡ false)
  none_in true b e = absurd (true≢false e)
  none_in false b e = (refl, e)

  -- one place more
  pub pass : (n : ℕ) (found : Bool) → Passed n found → Passed (n + 1) (found || five n)
  pass n found h e p q here =
      let (none, not-here) = none_in found (five n) e in
      ⊎_elim
      (λ (b : p < n). h none p b here)
      (λ (b : n ≤ p). let i : p ≡ n = omega arith in absurd (true≢false (sym (padded-five n (subst (PaddedHere src) i here)) ∙ not-here)))
      (below p n)

  -- all places
  pub all-passed : (found : Bool) (n m : ℕ) → Passed n found → m ≤ n → length src ≤ m + 4 → found ≡ false → is_padded (stream src) ≡ false
  all-passed found n m h k l e = no-padding src (λ p q here. h e p (omega arith) here)
