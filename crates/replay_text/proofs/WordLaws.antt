-- The words of a line, by places. Assumes nothing.
use mathlib.Core.Path.{◌≡◌, refl, sym, ap, ◌∙◌}
use mathlib.Core.Bool.{Bool, true, false}
use mathlib.Core.List.{List, [], ◌∷◌}
use Prim.Native.Nat.{ℕ, zero, suc, ◌+◌, ◌-◌, ◌≤◌, ◌<◌}
use native.Mathlib.Numerals.{add-one}
use native.Mathlib.Omega.{arith}
use borrow.Author.Tests.{eq-eqb, ne_eqb}
use lib.Dec.{eqb}
use lib.ListN.{length, take, drop, get_or, drop_of_length-le}
use Rattle.std.specs.Prelude.{Option, Some, None, MatchOption, HoldsAt, unwrap_or}
use Rattle.std.specs.List.{AllWithin}
use Rattle.replay_text.specs.Words.{until, after, word}

module _ (b : ℕ) where
  pub inside : (l : List ℕ) → length (until b l) ≤ length l
  inside [] = omega arith
  inside (x ∷ l) = go (eqb x b) refl (inside l)
    where
      go : (t : Bool) → eqb x b ≡ t → length (until b l) ≤ length l → length (until b (x ∷ l)) ≤ length (x ∷ l)
      go true e h = rw e (omega arith)
      go false e h = rw e (omega arith)

  pub front : (l : List ℕ) → take (length (until b l)) l ≡ until b l
  front [] = refl
  front (x ∷ l) = go (eqb x b) refl (front l)
    where
      go : (t : Bool) → eqb x b ≡ t → take (length (until b l)) l ≡ until b l → take (length (until b (x ∷ l))) (x ∷ l) ≡ until b (x ∷ l)
      go true e h = rw e
      go false e h = rw e (ap (λ (t : List ℕ). x ∷ t) h)

  back : (l : List ℕ) → drop (suc (length (until b l))) l ≡ after b l
  back [] = refl
  back (x ∷ l) = go (eqb x b) refl (back l)
    where
      go : (t : Bool) → eqb x b ≡ t → drop (suc (length (until b l))) l ≡ after b l → drop (suc (length (until b (x ∷ l)))) (x ∷ l) ≡ after b (x ∷ l)
      go true e h = rw e
      go false e h = rw e h

  module _ (l : List ℕ) (i : ℕ) where
    -- there is one
    pub behind : i ≡ length (until b l) → drop (i + 1) l ≡ after b l
    behind e = rw (e, add-one) (back l)

    -- there is none
    pub nothing-behind : i ≡ length (until b l) → length l ≤ i → [] ≡ after b l
    nothing-behind e h =
        let k : length l ≤ suc (length (until b l)) = omega arith in
        sym (drop_of_length-le l k) ∙ back l

  -- all before place i are other bytes, and at i there is b or the end
  first-place : (l : List ℕ) (i : ℕ) → i ≤ length l → ((k : ℕ) → k < i → get_or l k 0 ≡ b → ⊥) → (i < length l → get_or l i 0 ≡ b) → i ≡ length (until b l)
  first-place [] zero h n e = refl
  first-place [] (suc i) h n e = let z : ⊥ = omega arith in absurd z
  first-place (x ∷ l) zero h n e = let f : x ≡ b = e (omega arith) in rw (eq-eqb x b f)
  first-place (x ∷ l) (suc i) h n e =
      let f : x ≡ b → ⊥ = n 0 (omega arith) in
      let r : i ≡ length (until b l) = first-place l i (omega arith) (λ k g. n (suc k) (omega arith)) (λ g. e (omega arith)) in
      rw (ne_eqb x b f) (ap suc r)

  -- the place of the first b, or how many bytes there are
  pub place : (l : List ℕ) (r : Option ℕ) → MatchOption r (AllWithin (λ x. x ≡ b → ⊥) l 0 (length l)) (λ i. (i < length l) × HoldsAt (λ x. x ≡ b) l i × AllWithin (λ x. x ≡ b → ⊥) l 0 i) → (unwrap_or r (length l) ≡ length (until b l)) × (unwrap_or r (length l) ≤ length l)
  place l None m = (first-place l (length l) (omega arith) (λ k h. m k 0 (omega arith) h) (λ h. let z : ⊥ = omega arith in absurd z), omega arith)
  place l (Some i) m = (first-place l i (omega (arith, m.0)) (λ k h. m.2 k 0 (omega arith) h) (λ h. m.1 0), omega (arith, m.0))

-- a later word than the first
pub later-word : (n : ℕ) (l : List ℕ) → (n ≡ 0 → ⊥) → word n l ≡ word (n - 1) (after 32 l)
later-word zero l h = absurd (h refl)
later-word (suc n) l h =
    let e : suc n - 1 ≡ n = omega arith in
    rw e
