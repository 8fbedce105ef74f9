-- A place in the deleted keys, by the rank of the key that is searched. Assumes nothing.
use Rattle.std.specs.Prelude.{ℕ, ◌<◌, ◌≤◌, ◌^◌, ◌≡◌, refl, Bool, true, false, ◌&&◌, List, ℤ, ltb, eqb}
use Rattle.std.proofs.Common.{sym, ap, ⊎_elim, arith, lt-ltb, le-ltb, eqb-true}
use Rattle.std.proofs.lemmas.Bool.{eqb-false}
use Rattle.definitions.specs.Tables.{list}
use Rattle.definitions.specs.Deltas.{rank, deleted_at}
use Rattle.definitions.specs.DeltaReading.{elem}
use Rattle.laws.specs.Tests.{below}
use Rattle.laws.specs.DeltaShape.{DeletedKey}
use Rattle.laws.specs.DeltaKeys.{rank_same, is-listed, not_listed, deleted-below, ranks-rise}

-- the deleted keys before the i-th are below a rank
pub record Under (a : List ℤ) (i low : ℕ) : Type 0 where
  pub below : (j : ℕ) → j < i → rank (deleted_at a j) < low

-- of k deleted keys the i-th is the first with this rank or above, if there is one
pub record Reached (a : List ℤ) (k i low : ℕ) : Type 0 where
  pub few : i ≤ k
  pub under : Under a i low
  pub here : i < k → low ≤ rank (deleted_at a i)

module _ (a : List ℤ) (k : ℕ) (keys : (i : ℕ) → i < k → DeletedKey a i) where
  -- a key is deleted if the first deleted key of its rank or above is the key itself
  pub elem-reached : (i key : ℕ) → key < 2 ^ 32 → Reached a k i (rank key) → elem key (list (deleted_at a) k) ≡ (ltb i k && eqb (deleted_at a i) key)
  elem-reached i key w r =
      ⊎_elim
      (λ (l : i < k). rw (lt-ltb i k l) (at-it l (eqb (deleted_at a i) key) refl))
      (λ (l : k ≤ i).
      rw (le-ltb i k l)
      (not_listed (deleted_at a) key k (λ j m e. let n = r.under.below j (omega arith) in let q = ap rank e in omega arith)))
      (below i k)
    where
      at-it : i < k → (b : Bool) → eqb (deleted_at a i) key ≡ b → elem key (list (deleted_at a) k) ≡ b
      at-it l true e = is-listed (deleted_at a) key k i l (sym (eqb-true (deleted_at a i) key e))
      at-it l false e = not_listed (deleted_at a) key k (λ j m q.
          let d = ap rank q in
          ⊎_elim
          (λ (t : j < i). let n = r.under.below j t in omega arith)
          (λ (t : i ≤ j).
          eqb-false (deleted_at a i) key e
          (rank_same (deleted_at a i) key (deleted-below a k keys i l) w (omega (arith, r.here l, ranks-rise a k keys i j t m))))
          (below j i))
