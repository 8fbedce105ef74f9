-- Keys and updates put in order: there are no more than before, and they rise. Assumes nothing.
use Rattle.std.specs.Prelude.{◌≡◌, Bool, cond, ℕ, suc, ◌+◌, ◌≤◌, ◌<◌, ◌^◌, leb, ltb, eqb, ℤ, length}
use Rattle.std.proofs.Math.Path.{refl}
use Rattle.std.proofs.Common.{sym, ap, ◌∙◌, length-append}
use Rattle.std.proofs.Math.Bool.{true, false}
use mathlib.Core.List.{List, [], ◌∷◌, map, map-id}
use Rattle.std.proofs.Math.Logic.{⊎_elim}
use native.Mathlib.Omega.{arith}
use borrow.Author.Tests.{le-leb, lt-ltb, le-ltb, eq-eqb, ne_eqb, ltb-true}
use Rattle.definitions.specs.Ints.{bits}
use Rattle.definitions.specs.Tables.{Item}
use Rattle.definitions.specs.Deltas.{rank, signed_rising, update_ints, updates_ints}
use Rattle.definitions.specs.DeltaReading.{put, ordered, ordered_keys, ordered_updates}
use Rattle.laws.specs.TableShape.{both}
use Rattle.laws.specs.TableFind.{order}
use Rattle.delta_index.specs.Placing.{keys_fit}

-- ---- ordering adds nothing

module _ {A : Type 0} (key : A → ℕ) (weight : List A → ℕ) (one : A → ℕ) (nil_is : weight [] ≡ 0) (cons-is : (x : A) (l : List A) → weight (x ∷ l) ≡ one x + weight l) where
  -- one more entry adds at most its own weight
  put-weight : (x : A) (l : List A) → weight (put key x l) ≤ one x + weight l
  unfolding put
  put-weight x [] = omega (arith, cons-is x [])
  put-weight x (y ∷ l) = go (ltb (rank (key x)) (rank (key y))) (eqb (rank (key x)) (rank (key y))) (put-weight x l)
    where
      go : (a b : Bool) → weight (put key x l) ≤ one x + weight l → weight (cond a (x ∷ y ∷ l) (cond b (y ∷ l) (y ∷ put key x l))) ≤ one x + weight (y ∷ l)
      go true b h = omega (arith, cons-is x (y ∷ l))
      go false true h = omega arith
      go false false h = omega (arith, cons-is y (put key x l), cons-is y l)

  -- the same for all of them
  ordered-weight : (l : List A) → weight (ordered key l) ≤ weight l
  unfolding ordered
  ordered-weight [] = omega arith
  ordered-weight (x ∷ l) = omega (arith, cons-is x l, put-weight x (ordered key l), ordered-weight l)

-- no more keys
pub length-ordered_keys : (l : List ℕ) → length (ordered_keys l) ≤ length l
length-ordered_keys l = ordered-weight (λ (k : ℕ). k) length (λ (k : ℕ). 1) refl (λ x m. omega arith) l

-- no more ints of updates
pub length-ordered_updates : (l : List Item) → length (updates_ints [] (ordered_updates l)) ≤ length (updates_ints [] l)
unfolding updates_ints
length-ordered_updates l =
    ordered-weight (λ (x : Item). x.key) (λ (m : List Item). length (updates_ints [] m)) (λ (x : Item). length (update_ints [] x)) refl
    (λ x m. length-append (update_ints [] x) (updates_ints [] m)) l

-- as many bits as ints
pub length-bits : (l : List ℤ) → length (map bits l) ≡ length l
length-bits [] = refl
length-bits (x ∷ l) = ap suc (length-bits l)

-- no more keys than were read
pub few-deleted : (values : List ℤ) → length (ordered_keys (map bits values)) ≤ length values
few-deleted values = omega (arith, length-ordered_keys (map bits values), length-bits values)

-- ---- in order they rise

module _ {A : Type 0} (key : A → ℕ) where
  -- one entry put among others that rise
  put-rises : (low : ℕ) (x : A) (l : List A) → low ≤ rank (key x) → key x < 2 ^ 32 → signed_rising low (map key l) ≡ true → signed_rising low (map key (put key x l)) ≡ true
  unfolding signed_rising put
  put-rises low x [] h k e = rw (le-leb low (rank (key x)) h, lt-ltb (key x) (2 ^ 32) k)
  put-rises low x (y ∷ l) h k e =
      let p = both (leb low (rank (key y))) _ e in
      let q = both (ltb (key y) (2 ^ 32)) _ p.1 in
      ⊎_elim
      (λ (m : rank (key x) < rank (key y)).
      rw (lt-ltb (rank (key x)) (rank (key y)) m, le-leb low (rank (key x)) h, lt-ltb (key x) (2 ^ 32) k, le-leb (suc (rank (key x))) (rank (key y)) m, q.0, q.1))
      (⊎_elim
      (λ (m : rank (key x) ≡ rank (key y)). rw (le-ltb (rank (key x)) (rank (key y)) (omega arith), eq-eqb (rank (key x)) (rank (key y)) m) e)
      (λ (m : rank (key y) < rank (key x)).
      let d : rank (key x) ≡ rank (key y) → ⊥ = λ z. omega arith in
      rw (le-ltb (rank (key x)) (rank (key y)) (omega arith), ne_eqb (rank (key x)) (rank (key y)) d, p.0, q.0) (put-rises (suc (rank (key y))) x l m k q.1)))
      (order (rank (key x)) (rank (key y)))

  -- all of them, if their keys are of 32 bits
  pub ordered-rises : (l : List A) → keys_fit (map key l) ≡ true → signed_rising 0 (map key (ordered key l)) ≡ true
  unfolding signed_rising ordered keys_fit
  ordered-rises [] e = refl
  ordered-rises (x ∷ l) e =
      let p = both (ltb (key x) (2 ^ 32)) _ e in
      put-rises 0 x (ordered key l) (omega arith) (ltb-true (key x) (2 ^ 32) p.0) (ordered-rises l p.1)

-- the same for keys alone
pub ordered_keys-rise : (l : List ℕ) → keys_fit l ≡ true → signed_rising 0 (ordered_keys l) ≡ true
ordered_keys-rise l e =
    ap (signed_rising 0) (sym (map-id (ordered_keys l))) ∙ ordered-rises (λ (k : ℕ). k) l (ap keys_fit (map-id l) ∙ e)
