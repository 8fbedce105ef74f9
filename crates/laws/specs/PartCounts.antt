-- How many parts are in. Assumes nothing.
use Rattle.std.specs.Prelude.{◌≡◌, true, false, List, length, set}
use Rattle.std.proofs.Math.Path.{refl, ap}
use Rattle.std.proofs.Math.Logic.{⊎_elim}
use Prim.Native.Nat.{ℕ, zero, suc, ◌+◌, ◌≤◌, ◌<◌}
use native.Mathlib.Omega.{arith}
use Rattle.std.proofs.Common.{le-leb, get_or-set_same, get_or-set_other}
use Rattle.definitions.specs.Receiver.{is_in, count_in}
use Rattle.laws.specs.Tests.{below, at_most_one}

module _ (l : List ℕ) where
  -- at most as many are in as are counted
  pub count-short : (k : ℕ) → count_in l k ≤ k
  unfolding count_in
  count-short zero = omega arith
  count-short (suc k) = omega (arith, count-short k, at_most_one (is_in l k))

  -- where all are in
  pub count-all : (k : ℕ) → ((p : ℕ) → p < k → is_in l p ≡ true) → count_in l k ≡ k
  unfolding count_in
  count-all zero h = refl
  count-all (suc k) h = rw (h k (omega arith), count-all k (λ p l. h p (omega arith))) (omega arith)

  -- where one is missing
  pub count-missing : (q : ℕ) → is_in l q ≡ false → (k : ℕ) → q < k → count_in l k < k
  unfolding count_in
  count-missing q e zero h = absurd (omega arith)
  count-missing q e (suc k) h =
      ⊎_elim
      (λ (s : q < k). omega (arith, count-missing q e k s, at_most_one (is_in l k)))
      (λ (s : k ≤ q). let m : q ≡ k = omega arith in rw (← m, e) (omega (arith, count-short q)))
      (below q k)

  -- where none is in from a place on
  pub count-beyond : (n j : ℕ) → ((p : ℕ) → n ≤ p → is_in l p ≡ false) → count_in l (n + j) ≡ count_in l n
  unfolding count_in
  count-beyond n zero h = let e : n + 0 ≡ n = omega arith in ap (count_in l) e
  count-beyond n (suc j) h =
      let e : n + suc j ≡ suc (n + j) = omega arith in
      rw (e, h (n + j) (omega arith)) (omega (arith, count-beyond n j h))

-- ---- one part more

module _ (l : List ℕ) (p n : ℕ) (small : n ≤ 900) (inside : p < length l) where
  -- the part that was put
  pub put_in : is_in (set l p n) p ≡ true
  put_in = rw (get_or-set_same l p n 901 inside) (le-leb n 900 small)

  -- the others stay
  pub others-in : (q : ℕ) → (q ≡ p → ⊥) → is_in (set l p n) q ≡ is_in l q
  others-in q z = rw (get_or-set_other l p q n 901 z)

  count_same : (k : ℕ) → k ≤ p → count_in (set l p n) k ≡ count_in l k
  unfolding count_in
  count_same zero h = refl
  count_same (suc k) h = rw (others-in k (λ e. omega arith), count_same k (omega arith))

  -- it counts one more
  pub count-more : is_in l p ≡ false → (k : ℕ) → p < k → count_in (set l p n) k ≡ count_in l k + 1
  unfolding count_in
  count-more a zero h = absurd (omega arith)
  count-more a (suc k) h =
      ⊎_elim
      (λ (s : p < k). rw (others-in k (λ e. omega arith), count-more a k s) (omega arith))
      (λ (s : k ≤ p). let m : p ≡ k = omega arith in rw (← m, put_in, a, count_same p (omega arith)) (omega arith))
      (below p k)
