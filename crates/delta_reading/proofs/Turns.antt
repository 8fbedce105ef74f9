-- Updates measured and written with their sizes, one after the other. Assumes nothing.
use Prim.Native.Nat.{ℕ, ◌+◌, ◌-◌, ◌*◌, ◌<◌, ◌≤◌}
use mathlib.Core.Path.{◌≡◌, refl, sym, ap, ◌∙◌}
use mathlib.Core.Bool.{Bool}
use mathlib.Core.List.{List, [], ◌∷◌, ◌++◌}
use native.Mathlib.Omega.{arith}
use lib.IntN.{ℤ, pos}
use lib.ListN.{length, set, take, drop, length-append, length-take, length-drop, length-set}
use Rattle.definitions.specs.Areas.{lay_at}
use Rattle.definitions.specs.Deltas.{update_ints, updates_ints, data_at, size_at, update_end, update_at, updates}
use Rattle.laws.specs.AreaLaws.{lay_at-append, lay_at-set, length-lay_at}
use Rattle.laws.specs.Laying.{Laying, lays-room, lays_more, lays-end}
use Rattle.laws.specs.DeltaShape.{Update, Updates, first-update, other-updates}
use Rattle.laws.specs.DeltaRestores.{length-values, updates-end}
use Rattle.ints.specs.Copies.{copy_at, copied}
use Rattle.laws.specs.DeltaSized.{sized-update, length-sized, none-sized, first-sized, all-sized-under}

module _ (sizes a : List ℤ) where
  -- the update at place p, and n updates from there on
  abbrev one : ℕ → List ℤ
  one p = update_ints [] (update_at sizes a p)

  abbrev pub sized : ℕ → ℕ → List ℤ
  sized p n = updates_ints [] (updates sizes a p n)

  -- ---- measuring

  -- n updates from place p on are left to measure
  pub record Measuring (start count total p n : ℕ) : Type 0 where
    pub lie : Updates sizes a p n
    pub sum : total + length (sized p n) ≡ length (sized start count)

  module _ (p n : ℕ) (l : 0 < n) where
    pub length-first : Updates sizes a p n → length (sized p n) ≡ 3 + size_at sizes a p + length (sized (update_end sizes a p) (n - 1))
    length-first us =
        omega (arith, ap length (first-sized sizes a p n l), length-append (one p) (sized (update_end sizes a p) (n - 1)), length-sized sizes a p (first-update us l))

  -- no more than twice the ints
  pub sized-short : (p n : ℕ) → p ≤ length a → Updates sizes a p n → 2 * p + length (sized p n) ≤ 2 * length a
  sized-short p n l us = omega (arith, all-sized-under sizes a p n us, (updates-end sizes a p n l us).1)

  module _ {start count total p n : ℕ} (m : Measuring start count total p n) where
    -- what is counted so far
    pub counted-under : 0 < n → total + (3 + size_at sizes a p) ≤ length (sized start count)
    counted-under l = omega (arith, m.sum, length-first p n l m.lie)

    pub one-measured : (end r : ℕ) → 0 < n → end ≡ update_end sizes a p → r ≡ size_at sizes a p → Measuring start count (total + (3 + r)) end (n - 1)
    one-measured end r l e d =
        record { lie = rw e (other-updates m.lie l); sum = rw e (omega (arith, m.sum, length-first p n l m.lie)) }

    pub all-measured : n ≤ 0 → total ≡ length (sized start count)
    all-measured l = omega (arith, m.sum, ap length (none-sized sizes a p n l))

  -- ---- one update written

  module _ (p : ℕ) (u : Update sizes a p) where
    length-head : length (take (p + 2 - p) (drop p a)) ≡ 2
    length-head = simp (length-take, length-drop) (omega (arith, u.head))

    -- if it has room, it is head, size and differences
    module _ (at : ℕ) (out o1 : List ℤ) (b1 : Bool) (h : at + length (one p) ≤ length out) (c1 : copy_at out at (take (p + 2 - p) (drop p a)) ≡ record { fits = b1; out = o1 }) where
      abbrev head : List ℤ
      head = take (p + 2 - p) (drop p a)

      o1-is : o1 ≡ lay_at at head out
      o1-is = copied out at head head b1 o1 c1 refl (omega (arith, length-head, length-sized sizes a p u))

      o1-long : length o1 ≡ length out
      o1-long = ap length o1-is ∙ length-lay_at at head out

      pub size-inside : at + 2 < length o1
      size-inside = omega (arith, o1-long, length-sized sizes a p u)

      pub sized-written : (x : ℤ) (v o3 : List ℤ) (b3 : Bool) → x ≡ pos (size_at sizes a p) → v ≡ take (size_at sizes a p) (drop (data_at sizes a p) a) → copy_at (set o1 (at + 2) x) (at + 3) v ≡ record { fits = b3; out = o3 } → (at + 3 + length v ≡ at + length (one p)) × (o3 ≡ lay_at at (one p) out)
      sized-written x v o3 b3 ex ev c3 =
          let two = length-head in
          let n : length v ≡ size_at sizes a p = ap length ev ∙ length-values sizes a p u in
          let o2-long : length (set o1 (at + 2) x) ≡ length out = length-set o1 (at + 2) x ∙ o1-long in
          let o3-is = copied (set o1 (at + 2) x) (at + 3) v v b3 o3 c3 refl (omega (arith, length-sized sizes a p u)) in
          let behind : at + 2 + 1 ≡ at + 3 = omega arith in
          let place : at + length head ≡ at + 2 = omega arith in
          let w : p + 2 - p ≡ 2 = omega arith in
          let parts : one p ≡ head ++ x ∷ v = rw (w, ex, ev) (sized-update sizes a p u) in
          (omega (arith, length-sized sizes a p u), o3-is ∙ (rw (parts, lay_at-append at head (x ∷ v) out, ← o1-is, place, lay_at-set (at + 2) x v o1 size-inside, behind)))

  -- ---- all updates written

  -- n updates from place p on are left to write
  pub record Writing (start count first : ℕ) (before out : List ℤ) (at p n : ℕ) : Type 0 where
    pub lie : Updates sizes a p n
    pub lays : Laying before first (sized start count) out at (sized p n)

  module _ {start count first : ℕ} {before out : List ℤ} {at p n : ℕ} (w : Writing start count first before out at p n) where
    pub room : 0 < n → first + length (sized start count) ≤ length before → at + length (one p) ≤ length out
    room l h = lays-room w.lays (one p) (sized (update_end sizes a p) (n - 1)) (first-sized sizes a p n l) h

    pub one_written : (end r : ℕ) (o : List ℤ) → 0 < n → end ≡ update_end sizes a p → r ≡ at + length (one p) → o ≡ lay_at at (one p) out → Writing start count first before o r end (n - 1)
    one_written end r o l e d f =
        let behind = first-sized sizes a p n l ∙ ap (λ (q : ℕ). one p ++ sized q (n - 1)) (sym e) in
        record { lie = rw e (other-updates w.lie l); lays = lays_more w.lays o r (one p) (sized end (n - 1)) behind f d }

    pub all-written : n ≤ 0 → (at ≡ first + length (sized start count)) × (out ≡ lay_at first (sized start count) before)
    all-written l = lays-end w.lays (none-sized sizes a p n l)
