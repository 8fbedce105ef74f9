-- The parts that are in, one by one. Assumes nothing.
use mathlib.Core.Path.{◌≡◌, refl, sym, ap, ◌∙◌}
use mathlib.Core.Bool.{Bool, true, false, cond, not}
use mathlib.Core.List.{List, [], ◌∷◌, ◌++◌, map}
use Prim.Native.Nat.{ℕ, zero, suc, ◌+◌, ◌-◌, ◌*◌, ◌≤◌, ◌<◌}
use native.Mathlib.Nat.{zero-add}
use native.Mathlib.Numerals.{add-one}
use native.Mathlib.Omega.{arith}
use borrow.Author.Tests.{le-leb, lt-leb, not-true, not-false}
use lib.Dec.{leb}
use lib.ListN.{length, take, drop, get_or, set, length-map, length-append, length-drop, length-replicate, get_or-replicate}
use lib.Seq.{length-take-le, take-nil}
use Rattle.definitions.specs.Areas.{lay, lay_at}
use Rattle.definitions.specs.Receiver.{no_parts, is_in, count_in, part_in, joined}
use Rattle.laws.specs.AreaLaws.{lay_at-nothing, lay_at-append, laid-there}
use Rattle.laws.specs.PartCounts.{count-more}
use Rattle.receiver.specs.States.{parts_for}

-- an array of 32 entries, in the form in which a struct's facts give it
pub whole : (l : List ℕ) → length (map (λ v. v) l) ≡ 32 → length l ≡ 32
whole l e = sym (length-map l (λ v. v)) ∙ e

-- an entry that is there does not depend on the default
pub there : (l : List ℕ) (p d e : ℕ) → p < length l → get_or l p d ≡ get_or l p e
there [] p d e h = absurd (omega arith)
there (x ∷ l) zero d e h = refl
there (x ∷ l) (suc p) d e h = there l p d e (omega arith)

-- of no parts, none is in
pub none-counted : (l : List ℕ) → 0 ≡ count_in l 0
unfolding count_in
none-counted l = refl

-- of no parts, nothing is joined
pub none-joined : (l area : List ℕ) → joined l area 0 ≡ []
unfolding joined
none-joined l area = refl

module _ (l : List ℕ) (e : length l ≡ 32) where
  -- whether a part is in, by its length
  pub is-in : (p : ℕ) → p < 32 → leb (get_or l p 0) 900 ≡ is_in l p
  is-in p h = rw (there l p 0 901 (omega arith))

  module _ (n n' i : ℕ) (h : i < 32) (c : n ≡ count_in l i) where
    -- one more part
    pub counted : n' ≡ n + 1 → get_or l i 0 ≤ 900 → n' ≡ count_in l (i + 1)
    unfolding count_in
    counted d k = rw (add-one i, ← is-in i h, le-leb (get_or l i 0) 900 k, d, c)

    -- the count stays
    pub passed : n' ≡ n → 900 < get_or l i 0 → n' ≡ count_in l (i + 1)
    unfolding count_in
    passed d k = rw (add-one i, ← is-in i h, lt-leb (get_or l i 0) 900 k, d, c) (omega arith)

  module _ (area out : List ℕ) (i at : ℕ) (h : i < 32) where
    -- a part that is not in
    pub absent : 900 < get_or l i 0 → (at ≡ at + length (part_in l area i)) × (at ≤ at + 900) × (out ≡ lay_at at (part_in l area i) out)
    absent k =
        rw (← is-in i h, lt-leb (get_or l i 0) 900 k)
        (omega arith, omega arith, sym (lay_at-nothing at out))

    -- a part that is in
    pub present : (out' : List ℕ) → get_or l i 0 ≤ 900 → 900 * i + get_or l i 0 ≤ length area → out' ≡ lay_at at (take (900 * i + get_or l i 0 - 900 * i) (drop (900 * i) area)) out → (at + get_or l i 0 ≡ at + length (part_in l area i)) × (at + get_or l i 0 ≤ at + 900) × (out' ≡ lay_at at (part_in l area i) out)
    present out' k r q =
        let n : 900 * i + get_or l i 0 - 900 * i ≡ get_or l i 0 = omega arith in
        let p : part_in l area i ≡ take (get_or l i 0) (drop (900 * i) area) = part k in
        let m : length (take (get_or l i 0) (drop (900 * i) area)) ≡ get_or l i 0 =
        length-take-le (get_or l i 0) (drop (900 * i) area) (simp length-drop (omega arith)) in
        rw (p, m) (refl, omega arith, rw n at q)
      where
        part : get_or l i 0 ≤ 900 → part_in l area i ≡ take (get_or l i 0) (drop (900 * i) area)
        part k = rw (← is-in i h, le-leb (get_or l i 0) 900 k, there l i 901 0 (omega arith))

-- `take` gives no more than was asked
taken-short : (n : ℕ) (l : List ℕ) → length (take n l) ≤ n
taken-short zero l = omega arith
taken-short (suc n) [] = omega arith
taken-short (suc n) (x ∷ l) = omega (arith, taken-short n l)

-- the second area has room for a part after those before it
pub room : (l : List ℕ) (i n at k : ℕ) → i < 32 → at ≤ 900 * i → n ≤ 900 → 28800 ≤ k → at + length (take (900 * i + n - 900 * i) l) ≤ k
room l i n at k h a e f = omega (arith, taken-short (900 * i + n - 900 * i) l)

-- a part fits the block through which it is copied
pub part-short : (l : List ℕ) (i n : ℕ) → n ≤ 900 → length (take (900 * i + n - 900 * i) l) ≤ 28800
part-short l i n e = omega (arith, taken-short (900 * i + n - 900 * i) l)

module _ (l area : List ℕ) where
  -- how much is joined with one more part
  pub joins-length : (i at n : ℕ) → at ≡ length (joined l area i) → n ≡ at + length (part_in l area i) → n ≡ length (joined l area (i + 1))
  unfolding joined
  joins-length i at n a m = rw (add-one i) (omega (arith, length-append (joined l area i) (part_in l area i)))

  -- what is joined afterwards
  pub joins : (out₀ out out' : List ℕ) (i at : ℕ) → at ≡ length (joined l area i) → out ≡ lay (joined l area i) out₀ → out' ≡ lay_at at (part_in l area i) out → out' ≡ lay (joined l area (i + 1)) out₀
  unfolding joined
  joins out₀ out out' i at a e f =
      let j = joined l area i in
      rw (add-one i, f, e, a) (sym (lay_at-append 0 j (part_in l area i) out₀ ∙ rw (zero-add (length j))))

-- ---- full leading parts

both-taken : (n m : ℕ) (l : List ℕ) → take n l ++ take m (drop n l) ≡ take (n + m) l
both-taken zero m l = rw (zero-add m)
both-taken (suc n) m [] = rw (take-nil {A = ℕ} m, take-nil {A = ℕ} (suc n + m))
both-taken (suc n) m (x ∷ l) = let e : suc n + m ≡ suc (n + m) = omega arith in rw e (ap (λ (k : List ℕ). x ∷ k) (both-taken n m l))

-- of no parts, the first 0 bytes are joined
pub none-full : (l area : List ℕ) → joined l area 0 ≡ take (900 * 0) area
unfolding joined
none-full l area = refl

-- one more full part
pub one-full : (l : List ℕ) → length l ≡ 32 → (i : ℕ) → i < 32 → get_or l i 0 ≡ 900 → ((area : List ℕ) → joined l area i ≡ take (900 * i) area) → (area : List ℕ) → joined l area (i + 1) ≡ take (900 * (i + 1)) area
unfolding joined
one-full l e i h f p area =
    let n : 900 * (i + 1) ≡ 900 * i + 900 = omega arith in
    rw (add-one i, p area, ← is-in l e i h, there l i 901 0 (omega arith), f, ← add-one i, n) (both-taken (900 * i) 900 area)

-- how many bytes the full leading parts have
pub full-length : (l area : List ℕ) (f : ℕ) → f ≤ 32 → 28800 ≤ length area → joined l area f ≡ take (900 * f) area → 900 * f ≡ length (joined l area f)
full-length l area f h k e = rw e (sym (length-take-le (900 * f) area (omega arith)))

-- they are copied at once
pub full-joined : (l area out out' : List ℕ) (f : ℕ) → joined l area f ≡ take (900 * f) area → out' ≡ lay (take (900 * f) area) out → out' ≡ lay (joined l area f) out
full-joined l area out out' f e g = rw e g

-- what was copied into a block
pub through : (block block' xs : List ℕ) → length xs ≤ length block → block' ≡ lay_at 0 xs block → take (length xs) block' ≡ xs
through block block' xs h e = rw e (laid-there 0 xs block (omega arith))

-- ---- one more part

-- no part of a new tick is in
pub new_in : (l : List ℕ) (p : ℕ) → p < 32 → false ≡ is_in (parts_for false l) p
new_in l p h = rw (get_or-replicate {A = ℕ} 32 p 901 901 h)

-- how many are in afterwards
pub counts_with : (b : Bool) (l : List ℕ) (p k n m : ℕ) → length l ≡ 32 → p < 32 → k ≤ 900 → is_in (parts_for b l) p ≡ false → n ≡ count_in l 32 → m ≡ cond b n 0 + 1 → m ≡ count_in (set (parts_for b l) p k) 32
counts_with true l p k n m e h s a c d = rw (d, c) (sym (count-more l p k s (omega arith) a 32 h))
counts_with false l p k n m e h s a c d =
    rw d (sym (count-more no_parts p k s (rw (length-replicate {A = ℕ} 32 901) h) a 32 h ∙ ap (λ (i : ℕ). i + 1) no-count))
  where
    no-count : count_in no_parts 32 ≡ 0
    no-count = unfold count_in in refl

-- the lengths with one more part, for a new tick
pub dropped : (b : Bool) (l l' : List ℕ) (p n : ℕ) → not b ≡ true → l' ≡ no_parts → set l' p n ≡ set (parts_for b l) p n
dropped b l l' p n h e = rw (not-true b h, e)

-- for the unfinished one
pub held : (b : Bool) (l l' : List ℕ) (p n : ℕ) → not b ≡ false → l' ≡ l → set l' p n ≡ set (parts_for b l) p n
held b l l' p n h e = rw (not-false b h, e)
