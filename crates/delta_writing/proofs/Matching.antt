-- Known sizes, compared with those of the updates one after the other. Assumes nothing.
use Prim.Native.Nat.{ℕ, zero, suc, ◌+◌, ◌-◌, ◌<◌, ◌≤◌, ◌^◌}
use mathlib.Core.Path.{◌≡◌, refl}
use mathlib.Core.Bool.{true, false}
use mathlib.Core.List.{List, []}
use native.Mathlib.Omega.{arith}
use lib.Dec.{eqb}
use lib.IntN.{ℤ}
use Rattle.definitions.specs.Tables.{nat}
use Rattle.definitions.specs.Deltas.{known_size, size_at, update_end, updates, delta_in}
use Rattle.definitions.specs.DeltaCalls.{is_size, sizes_match}
use Rattle.laws.specs.DeltaShape.{Update, area-size}
use Rattle.laws.specs.DeltaRestores.{type-of, length-values}
use Rattle.delta_form.specs.Held.{size_from, HeldDelta}
use Rattle.delta_form.specs.Forms.{is_known}

-- the count r is what is known of the type of the update at place p
module _ (sizes a : List ℤ) (p t r : ℕ) (e : t ≡ nat a p) (k : known_size sizes t ≡ size_from r) where
  pub compared : (n : ℕ) → r < 2 ^ 32 → n ≡ nat a (p + 2) → eqb r n ≡ is_size (known_size sizes (nat a p)) (size_at [] a p)
  compared n l d = rw (is_known sizes r e k l, area-size a p, d)

module _ (sizes a : List ℤ) (p : ℕ) where
  pub none_left : (n : ℕ) → n ≤ 0 → true ≡ sizes_match sizes (updates [] a p n)
  unfolding sizes_match updates
  none_left zero l = refl
  none_left (suc n) l = absurd (omega arith)

  module _ (u : Update [] a p) where
    pub unmatched : (n : ℕ) → 0 < n → false ≡ is_size (known_size sizes (nat a p)) (size_at [] a p) → false ≡ sizes_match sizes (updates [] a p n)
    unfolding sizes_match updates
    unmatched zero l e = absurd (omega arith)
    unmatched (suc n) l e = rw (type-of [] a p u, length-values [] a p u, ← e)

    pub matched : (n end : ℕ) → 0 < n → true ≡ is_size (known_size sizes (nat a p)) (size_at [] a p) → end ≡ update_end [] a p → sizes_match sizes (updates [] a end (n - 1)) ≡ sizes_match sizes (updates [] a p n)
    unfolding sizes_match updates
    matched zero end l e d = absurd (omega arith)
    matched (suc n) end l e d =
        let m : suc n - 1 ≡ n = omega arith in
        rw (m, d, type-of [] a p u, length-values [] a p u, ← e)

-- the updates that an area holds
pub updates-held : (a : List ℤ) (k u : ℕ) → HeldDelta [] a k u → updates [] a (3 + k) u ≡ (delta_in [] a).updated
updates-held a k u h = rw (h.deleted-is, h.updated-is)
