-- The updates of an area written under known sizes: which of the area's ints they are. Assumes nothing.
use Prim.Native.Nat.{ℕ, zero, suc, ◌+◌, ◌-◌, ◌/◌, ◌≤◌}
use Rattle.std.specs.Prelude.{◌≡◌, ℤ, length, drop}
use Rattle.std.proofs.Common.{ap, length-append}
use mathlib.Core.List.{List, [], ◌++◌}
use Rattle.std.proofs.Math.Option.{Option, some, none}
use native.Mathlib.Omega.{arith}
use Rattle.std.proofs.Math.ListN.{take}
use Rattle.definitions.specs.Tables.{nat}
use Rattle.definitions.specs.Deltas.{known_size, size_ints, update_ints, updates_ints, update_key, data_at, size_at, update_end, update_at, updates}
use Rattle.laws.specs.TableForm.{pos-nat}
use Rattle.laws.specs.DeltaShape.{updates_end, nothing_known, area-data, area-size, area-end, Update, Updates, last, more}
use Rattle.laws.specs.DeltaRestores.{type-of, id-of, length-values, head-ints, behind-head, updates-end}

-- what is written of the update at place p behind its type and id: its size unless known, and its differences
unfoldable pub rest_ints : List ℤ → List ℤ → ℕ → List ℤ
rest_ints sizes a p =
    size_ints (known_size sizes (nat a p)) (size_at [] a p) ++ take (size_at [] a p) (drop (data_at [] a p) a)

one_size : (o : Option ℕ) (n : ℕ) (v : List ℤ) → length (size_ints o n ++ v) ≤ suc (length v)
one_size (some m) n v = omega arith
one_size none n v = omega arith

module _ (sizes a : List ℤ) (p : ℕ) (u : Update [] a p) where
  -- type and id are two of the area's ints
  pub update-parts : update_ints sizes (update_at [] a p) ≡ take 2 (drop p a) ++ rest_ints sizes a p
  unfolding update_ints rest_ints
  update-parts =
      rw (length-values [] a p u, type-of [] a p u, id-of [] a p u, head-ints [] a p u, pos-nat a p (omega (arith, u.type-below)), pos-nat a (p + 1) (omega (arith, u.id_below)))

  -- and the rest is a part of the area
  pub rest-known : (m : ℕ) → known_size sizes (nat a p) ≡ some m → rest_ints sizes a p ≡ take (update_end [] a p - (p + 3)) (drop (p + 3) a)
  unfolding rest_ints
  rest-known m e =
      let s : nat a (p + 2) ≡ p + 3 + nat a (p + 2) - (p + 3) = omega arith in
      rw (e, area-data a p, area-size a p, area-end a p) (ap (λ (n : ℕ). take n (drop (p + 3) a)) s)

  pub rest-unknown : known_size sizes (nat a p) ≡ none → rest_ints sizes a p ≡ take (update_end [] a p - (p + 2)) (drop (p + 2) a)
  unfolding rest_ints
  rest-unknown e =
      let s : p + 3 + nat a (p + 2) - (p + 2) ≡ suc (nat a (p + 2)) = omega arith in
      rw (e, behind-head [] a p u, nothing_known (nat a p), area-data a p, area-size a p, area-end a p, s)

  -- no more ints than the area has of it
  pub length-written : p + length (update_ints sizes (update_at [] a p)) ≤ update_end [] a p
  unfolding update_ints
  length-written =
      let v = (update_at [] a p).values in
      omega (arith, one_size (known_size sizes (update_key a p / 65536)) (length v) v, length-values [] a p u, area-size a p, area-end a p)

-- ---- all updates

pub length-written-updates : (sizes a : List ℤ) (p n : ℕ) → Updates [] a p n → p + length (updates_ints sizes (updates [] a p n)) ≤ updates_end [] a p n
unfolding updates_ints updates updates_end
length-written-updates sizes a p zero last = omega arith
length-written-updates sizes a p (suc n) (more u us) =
    let x = update_ints sizes (update_at [] a p) in
    let end = update_end [] a p in
    omega (arith, length-append x (updates_ints sizes (updates [] a end n)), length-written sizes a p u, length-written-updates sizes a end n us)

-- no more ints than the area has
pub written-within : (sizes a : List ℤ) (p n : ℕ) → p ≤ length a → Updates [] a p n → length (updates_ints sizes (updates [] a p n)) ≤ length a
written-within sizes a p n l us = omega (arith, length-written-updates sizes a p n us, updates-end [] a p n l us)
