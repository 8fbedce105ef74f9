-- What the place of a key says, and how a search for it goes on. Assumes nothing.
use Rattle.std.specs.Prelude.{ℕ, ◌+◌, ◌<◌, ◌≤◌, ◌≡◌, refl, ◌⊎◌, Bool, true, false, List, ℤ, eqb}
use Rattle.std.proofs.Common.{inl, inr, arith, eqb-true}
use Rattle.std.proofs.lemmas.Bool.{false≢true, eqb-false}
use Rattle.std.proofs.Math.Option.{some, none}
use Rattle.definitions.specs.Tables.{items, key_at, values_at, find, is_some}
use Rattle.laws.specs.Tests.{below}
use Rattle.laws.specs.TableShape.{keys-le}
use Rattle.laws.specs.TableFind.{Place, absent, present}
use Rattle.table.specs.Held.{Held}

module _ (a : List ℤ) (n k p : ℕ) (h : Held a n) (q : Place a k p) where
  -- the item at the place has the key, or none has
  pub at_place : p < n → eqb (key_at a p) k ≡ is_some (find k (items a))
  at_place l = go (eqb (key_at a p) k) refl
    where
      go : (b : Bool) → eqb (key_at a p) k ≡ b → b ≡ is_some (find k (items a))
      go true e = rw (present a h.shape k p q (omega (arith, h.count-is)) (eqb-true (key_at a p) k e))
      go false e = rw (absent a h.shape k p q (λ l. eqb-false (key_at a p) k e))

  pub past_all : n ≤ p → false ≡ is_some (find k (items a))
  past_all l = rw (absent a h.shape k p q (λ m e. omega (arith, h.count-is)))

  -- a key that is found is found at its place
  pub found_at : is_some (find k (items a)) ≡ true → (p < n) × (find k (items a) ≡ some (values_at a p))
  found_at e = go (eqb (key_at a p) k) refl (below p n)
    where
      hit : find k (items a) ≡ none → ⊥
      hit d = let t : is_some none ≡ true = rw d at e in false≢true t

      go : (b : Bool) → eqb (key_at a p) k ≡ b → (p < n) ⊎ (n ≤ p) → (p < n) × (find k (items a) ≡ some (values_at a p))
      go true d (inl l) =
          (l, present a h.shape k p q (omega (arith, h.count-is)) (eqb-true (key_at a p) k d))
      go true d (inr l) = absurd (hit (absent a h.shape k p q (λ m x. omega (arith, h.count-is))))
      go false d s = absurd (hit (absent a h.shape k p q (λ m. eqb-false (key_at a p) k d)))

-- ---- a place that advances

module _ (a : List ℤ) (n k i : ℕ) (h : Held a n) (l : i < n) (less : (j : ℕ) → j < i → key_at a j < k) where
  -- one more key is less
  pub one_more : key_at a i < k → (j : ℕ) → j < i + 1 → key_at a j < k
  one_more m j o = omega (arith, keys-le a h.shape j i (omega arith) (omega (arith, h.count-is)))

  -- the place is found
  pub stops : k ≤ key_at a i → Place a k i
  stops m =
      record {
        within = omega (arith, h.count-is);
        below = less;
        above = λ j o r. omega (arith, keys-le a h.shape i j o r);
      }

-- all keys are less
pub at-end : (a : List ℤ) (n k i : ℕ) → Held a n → i ≤ n → n ≤ i → ((j : ℕ) → j < i → key_at a j < k) → Place a k i
at-end a n k i h l m less =
    record { within = omega (arith, h.count-is); below = less; above = λ j o r. absurd (omega (arith, h.count-is)) }
