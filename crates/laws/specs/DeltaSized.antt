-- The updates that ints hold under known sizes, written with their sizes: which of the ints they are, and how many. Assumes nothing.
use Prim.Native.Nat.{ℕ, zero, suc, ◌+◌, ◌-◌, ◌*◌, ◌<◌, ◌≤◌, ◌^◌}
use Rattle.std.proofs.Math.Path.{◌≡◌, refl}
use Rattle.std.proofs.Common.{sym, ap, ◌∙◌, length-append, ltb-true}
use Rattle.std.specs.Prelude.{Bool, cond, List, [], ◌∷◌, ◌++◌, ℤ, pos, negsuc, length, get_or, take, drop, ltb}
use Rattle.std.proofs.Math.Bool.{true, false}
use Rattle.std.proofs.Math.Option.{Option, some, none}
use native.Mathlib.Omega.{arith}
use Rattle.definitions.specs.Tables.{nat}
use Rattle.definitions.specs.Deltas.{known, known_size, update_ints, updates_ints, data_at, size_at, update_end, update_at, updates}
use Rattle.laws.specs.TableForm.{pos-nat}
use Rattle.laws.specs.DeltaShape.{updates_end, two-at-least, Update, Updates, last, more}
use Rattle.laws.specs.DeltaRestores.{type-of, id-of, length-values, head-ints}
use Rattle.laws.specs.DeltaSize.{update-written, length-update}

-- ---- one update

module _ (sizes a : List ℤ) (p : ℕ) (u : Update sizes a p) where
  -- type and id as they are, the size, and the differences as they are
  pub sized-update : update_ints [] (update_at sizes a p) ≡ take 2 (drop p a) ++ pos (size_at sizes a p) ∷ take (size_at sizes a p) (drop (data_at sizes a p) a)
  sized-update =
      update-written (update_at sizes a p)
      ∙ rw (length-values sizes a p u, type-of sizes a p u, id-of sizes a p u, head-ints sizes a p u, pos-nat a p (omega (arith, u.type-below)), pos-nat a (p + 1) (omega (arith, u.id_below)))

  pub length-sized : length (update_ints [] (update_at sizes a p)) ≡ 3 + size_at sizes a p
  length-sized = length-update (update_at sizes a p) ∙ ap (λ (n : ℕ). 3 + n) (length-values sizes a p u)

  -- at most one int more than is there
  pub sized-under : 2 * p + length (update_ints [] (update_at sizes a p)) ≤ 2 * update_end sizes a p
  unfolding update_end data_at
  sized-under = omega (arith, length-sized, two-at-least (known_size sizes (nat a p)))

-- ---- all updates

module _ (sizes a : List ℤ) (p : ℕ) where
  pub none-sized : (n : ℕ) → n ≤ 0 → updates_ints [] (updates sizes a p n) ≡ []
  unfolding updates_ints updates
  none-sized zero l = refl
  none-sized (suc n) l = absurd (omega arith)

  pub first-sized : (n : ℕ) → 0 < n → updates_ints [] (updates sizes a p n) ≡ update_ints [] (update_at sizes a p) ++ updates_ints [] (updates sizes a (update_end sizes a p) (n - 1))
  unfolding updates_ints updates
  first-sized zero l = absurd (omega arith)
  first-sized (suc n) l = let m : suc n - 1 ≡ n = omega arith in rw m

-- at most twice the ints that are there
pub all-sized-under : (sizes a : List ℤ) (p n : ℕ) → Updates sizes a p n → 2 * p + length (updates_ints [] (updates sizes a p n)) ≤ 2 * updates_end sizes a p n
unfolding updates_ints updates updates_end
all-sized-under sizes a p zero last = omega arith
all-sized-under sizes a p (suc n) (more u us) =
    let x = update_ints [] (update_at sizes a p) in
    let end = update_end sizes a p in
    omega (arith, length-append x (updates_ints [] (updates sizes a end n)), sized-under sizes a p u, all-sized-under sizes a end n us)

-- ---- a size as an int

is_pos : (z : ℤ) (m : ℕ) → known z ≡ some m → z ≡ pos m
is_pos (pos n) m e = let q : n ≡ m = cc in ap pos q
is_pos (negsuc n) m e = let z : ◌≡◌ {A = ℕ} 0 1 = cc in absurd (omega arith)

-- the size r is known of the type of the update at place p
module _ (sizes a : List ℤ) (p t m : ℕ) (d : t ≡ nat a p) (e : known_size sizes (nat a p) ≡ some m) where
  abbrev kept : Bool → Option ℕ
  kept b = cond b (known (get_or sizes (nat a p) (pos 0))) none

  is-listed : (ltb (nat a p) (length sizes) ≡ true) × (known (get_or sizes (nat a p) (pos 0)) ≡ some m)
  is-listed = go (ltb (nat a p) (length sizes)) (unfold known_size in e)
    where
      go : (b : Bool) → kept b ≡ some m → (b ≡ true) × (known (get_or sizes (nat a p) (pos 0)) ≡ some m)
      go true q = (refl, q)
      go false q = let z : ◌≡◌ {A = ℕ} 0 1 = cc in absurd (omega arith)

  pub known-inside : t < length sizes
  known-inside = rw d (ltb-true _ _ is-listed.0)

  pub known-int : get_or sizes t (pos 0) ≡ pos (size_at sizes a p)
  unfolding size_at
  known-int = rw (d, e) (is_pos (get_or sizes (nat a p) (pos 0)) m is-listed.1)

-- and where none is known
module _ (sizes a : List ℤ) (p : ℕ) (u : Update sizes a p) (e : known_size sizes (nat a p) ≡ none) where
  pub unknown-inside : p + 2 < length a
  unknown-inside = let b : p + 3 ≤ length a = unfold data_at in rw e at u.begins in omega arith

  pub unknown-int : get_or a (p + 2) (pos 0) ≡ pos (size_at sizes a p)
  unfolding size_at
  unknown-int =
      let small : nat a (p + 2) < 2 ^ 32 = rw e at u.size_below in
      rw e (sym (pos-nat a (p + 2) small))
