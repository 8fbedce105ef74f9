-- Keys among others, by place in a list and by rank; the deleted keys of ints in form rise. Assumes nothing.
use Prim.Native.Nat.{ℕ, zero, suc, ◌+◌, ◌<◌, ◌≤◌, ◌^◌}
use Rattle.std.specs.Prelude.{◌≡◌, Bool, true, false, ◌||◌, List, [], ◌∷◌, ◌++◌, ℤ, pos, get_or, eqb}
use Rattle.std.proofs.Math.Path.{refl, ap}
use Rattle.std.proofs.Common.{sym, ◌∙◌}
use Rattle.std.proofs.Math.Bool.{or-true, or-false, or_assoc}
use Rattle.std.proofs.Math.Logic.{⊎_elim}
use native.Mathlib.Omega.{arith}
use borrow.Author.Tests.{eq-eqb, ne_eqb}
use Rattle.definitions.specs.Tables.{list}
use Rattle.definitions.specs.Deltas.{rank, deleted_at, lowest_rank}
use Rattle.definitions.specs.DeltaReading.{elem}
use Rattle.laws.specs.IntLaws.{bits_below}
use Rattle.laws.specs.DeltaShape.{DeletedKey}
use Rattle.laws.specs.Tests.{below}

-- keys of 32 bits with the same rank are equal
pub rank_same : (j k : ℕ) → j < 2 ^ 32 → k < 2 ^ 32 → rank j ≡ rank k → j ≡ k
unfolding rank
rank_same j k l m e = omega arith

-- ---- among listed keys

elem-snoc : (k : ℕ) (l : List ℕ) (x : ℕ) → elem k (l ++ x ∷ []) ≡ (elem k l || eqb k x)
elem-snoc k [] x = or-false (eqb k x)
elem-snoc k (y ∷ l) x = ap (λ (b : Bool). eqb k y || b) (elem-snoc k l x) ∙ sym (or_assoc (eqb k y) (elem k l) (eqb k x))

module _ (f : ℕ → ℕ) (key : ℕ) where
  pub is-listed : (n i : ℕ) → i < n → key ≡ f i → elem key (list f n) ≡ true
  unfolding list
  is-listed zero i l e = absurd (omega arith)
  is-listed (suc n) i l e =
      rw (elem-snoc key (list f n) (f n))
      (⊎_elim
      (λ (m : i < n). rw (is-listed n i m e))
      (λ (m : n ≤ i). let q : i ≡ n = omega arith in rw (eq-eqb key (f n) (e ∙ ap f q)) (or-true (elem key (list f n))))
      (below i n))

  pub not_listed : (n : ℕ) → ((i : ℕ) → i < n → key ≡ f i → ⊥) → elem key (list f n) ≡ false
  unfolding list
  not_listed zero h = refl
  not_listed (suc n) h =
      rw (elem-snoc key (list f n) (f n), not_listed n (λ i l. h i (omega arith)), ne_eqb key (f n) (h n (omega arith)))

-- ---- among the deleted keys

module _ (a : List ℤ) (k : ℕ) (keys : (i : ℕ) → i < k → DeletedKey a i) where
  -- they are of 32 bits
  pub deleted-below : (i : ℕ) → i < k → deleted_at a i < 2 ^ 32
  unfolding deleted_at
  deleted-below i l = bits_below (get_or a (3 + i) (pos 0)) (keys i l).whole

  -- they rise
  pub ranks-rise : (i j : ℕ) → i ≤ j → j < k → rank (deleted_at a i) ≤ rank (deleted_at a j)
  ranks-rise i zero l m = let e : i ≡ 0 = omega arith in rw e (omega arith)
  ranks-rise i (suc j) l m =
      let next : rank (deleted_at a j) < rank (deleted_at a (suc j)) = unfold lowest_rank in (keys (suc j) m).order in
      ⊎_elim
      (λ (q : i < suc j). let again = ranks-rise i j (omega arith) (omega arith) in omega arith)
      (λ (q : suc j ≤ i). let e : i ≡ suc j = omega arith in rw e (omega arith))
      (below i (suc j))
