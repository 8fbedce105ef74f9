-- Counted and joined offsets: when all are above the one before and at whole ints, and what that says about where items end. Assumes nothing.
use Prim.Native.Nat.{ℕ, zero, suc, ◌+◌, ◌-◌, ◌%◌, ◌<◌, ◌≤◌, ◌^◌}
use mathlib.Core.Path.{◌≡◌, refl, sym, ap, ◌∙◌}
use mathlib.Core.Logic.{⊎_elim}
use mathlib.Core.Bool.{Bool, true, false, cond, ◌&&◌, false≢true}
use mathlib.Core.List.{List}
use native.Mathlib.Nat.{eq-or-lt_of_le, le_of_suc-le-suc}
use native.Mathlib.Numerals.{add-one}
use native.Mathlib.Omega.{arith}
use lib.Bits.{bit_or, or_add_and, and_le_l, and_le_r, or_mod, or_zero_l}
use lib.IntN.{ℤ, pos, negsuc}
use lib.ListN.{get_or}
use borrow.Author.Tests.{ltb-true, lt-ltb}
use Rattle.definitions.specs.Ints.{bits, signed_less}
use Rattle.definitions.specs.Tables.{num, nat, edge, ends, fits, all}
use Rattle.laws.specs.TableShape.{both, fails, all-holds, Ends, ends-well, well-ends, edge-end, edge-within}
use Rattle.laws.specs.TableForm as Form
use Rattle.table.specs.Held.{Head, Held}
use Rattle.table.specs.Offsets.{behind_at, joined, tally}

-- ---- counting

-- at most all
pub tally-most : (p : ℕ → Bool) (k : ℕ) → tally p k ≤ k
unfolding tally
tally-most p zero = omega arith
tally-most p (suc k) = go (p k) (tally-most p k)
  where
    go : (b : Bool) → tally p k ≤ k → tally p k + cond b 1 0 ≤ suc k
    go true l = omega arith
    go false l = omega arith

-- if all are counted, p holds for all
pub tally-all : (p : ℕ → Bool) (k : ℕ) → tally p k ≡ k → all p k ≡ true
unfolding tally all
tally-all p zero e = refl
tally-all p (suc k) e = go (p k) (tally-all p k) e
  where
    go : (b : Bool) → (tally p k ≡ k → all p k ≡ true) → tally p k + cond b 1 0 ≡ suc k → (all p k && b) ≡ true
    go true h f = rw (h (omega arith))
    go false h f = absurd (omega (arith, tally-most p k))

-- if p holds for all, all are counted
pub all-tally : (p : ℕ → Bool) (k : ℕ) → all p k ≡ true → tally p k ≡ k
unfolding tally all
all-tally p zero e = refl
all-tally p (suc k) e =
    let q = both (all p k) (p k) e in
    rw q.1 (omega (arith, all-tally p k q.0))

-- one more is counted
pub tally-more : (p : ℕ → Bool) (k : ℕ) → tally p k + cond (p k) 1 0 ≡ tally p (k + 1)
unfolding tally
tally-more p k = rw add-one

-- p holds for every number below k
pub all_of : (p : ℕ → Bool) (k : ℕ) → ((i : ℕ) → i < k → p i ≡ true) → all p k ≡ true
unfolding all
all_of p zero h = refl
all_of p (suc k) h = rw (all_of p k (λ i l. h i (omega arith)), h k (omega arith))

-- ---- joining

-- if the or of two numbers is 0, both are 0
or-none : (x y : ℕ) → bit_or x y ≡ 0 → (x ≡ 0) × (y ≡ 0)
or-none x y e =
    let s = or_add_and x y in
    (omega (arith, s, e, and_le_r x y), omega (arith, s, e, and_le_l x y))

-- one more is joined
pub joined-more : (a : List ℤ) (k : ℕ) → bit_or (joined a k) (bits (get_or a (3 + k) (pos 0))) ≡ joined a (k + 1)
unfolding joined
joined-more a k = rw add-one

-- if the joined bits have no remainder, no offset has one
pub joined-whole : (a : List ℤ) (k : ℕ) → joined a k % 4 ≡ 0 → (i : ℕ) → i < k → bits (get_or a (3 + i) (pos 0)) % 4 ≡ 0
unfolding joined
joined-whole a zero e i l = absurd (omega arith)
joined-whole a (suc k) e i l =
    let q = or-none (joined a k % 4) (bits (get_or a (3 + k) (pos 0)) % 4) (sym (or_mod (joined a k) (bits (get_or a (3 + k) (pos 0))) 2) ∙ e) in
    ⊎_elim (λ (m : i ≡ k). ap (λ (j : ℕ). bits (get_or a (3 + j) (pos 0)) % 4) m ∙ q.1) (λ (m : i < k). joined-whole a k q.0 i m) (eq-or-lt_of_le (le_of_suc-le-suc l))

-- if no offset has a remainder, the joined bits have none
pub whole-joined : (a : List ℤ) (k : ℕ) → ((i : ℕ) → i < k → bits (get_or a (3 + i) (pos 0)) % 4 ≡ 0) → joined a k % 4 ≡ 0
unfolding joined
whole-joined a zero h = refl
whole-joined a (suc k) h =
    or_mod (joined a k) (bits (get_or a (3 + k) (pos 0))) 2 ∙ rw (whole-joined a k (λ i l. h i (omega arith)), h k (omega arith)) (or_zero_l 0)

-- ---- offsets as ints

-- a count equals its int if that is not negative
pub count-is-int : (z : ℤ) → num z < 2 ^ 32 → z ≡ pos (num z)
unfolding num
count-is-int (pos n) l = refl
count-is-int (negsuc n) l = absurd (omega arith)

-- a number above a count is a count
above-count : (x : ℕ) (z : ℤ) → signed_less (pos x) z ≡ true → (z ≡ pos (num z)) × (x < num z)
unfolding num
above-count x (pos y) e = (refl, ltb-true x y e)
above-count x (negsuc y) e = absurd (false≢true e)

bits-count : (x : ℕ) → bits (pos x) ≡ x
unfolding bits
bits-count x = refl

-- a count's bits are the count
pub count_bits : (z : ℤ) → num z < 2 ^ 32 → bits z ≡ num z
count_bits z l = ap bits (count-is-int z l) ∙ bits-count (num z)

-- ---- where items end

module _ (a : List ℤ) (n s : ℕ) (h : Head a n s) where
  -- the offset of an item
  edge-nat : (i : ℕ) → i < n → edge a i ≡ nat a (2 + i)
  edge-nat i l = Form.edge-nat a i (omega (arith, h.count-is))

  edge-last : edge a n ≡ s
  edge-last = ap (edge a) h.count-is ∙ edge-end a ∙ sym h.size_is

  small : s < 2 ^ 31
  small = omega (arith, h.short)

  -- all are above the one before, at whole ints, and the last is before the end
  module _ (f : all (behind_at a) (n - 1) ≡ true) (g : joined a (n - 1) % 4 ≡ 0) (last : bits (get_or a (1 + n) (pos 0)) < s) (m : s % 4 ≡ 0) (l : 0 < n) where
    -- the next offset, if this one is a count
    next-int : (i : ℕ) → i + 1 < n → get_or a (2 + i) (pos 0) ≡ pos (edge a i) → (get_or a (3 + i) (pos 0) ≡ pos (edge a (i + 1))) × (edge a i < edge a (i + 1))
    unfolding behind_at nat
    next-int i q o =
        let b = rw o at (all-holds (behind_at a) i (n - 1) (omega arith) f) in
        let p = above-count (edge a i) (get_or a (3 + i) (pos 0)) b in
        let e : num (get_or a (3 + i) (pos 0)) ≡ edge a (i + 1) = ap (λ (k : ℕ). num (get_or a k (pos 0))) (omega arith) ∙ sym (edge-nat (i + 1) q) in
        (p.0 ∙ ap pos e, omega (arith, p.1, e))

    -- all are counts
    offset-int : (i : ℕ) → i < n → get_or a (2 + i) (pos 0) ≡ pos (edge a i)
    unfolding nat
    offset-int zero q =
        let e : num (get_or a (2 + zero) (pos 0)) ≡ edge a 0 = sym (edge-nat 0 q) in
        count-is-int _ (omega (arith, e, h.first)) ∙ ap pos e
    offset-int (suc i) q =
        ap (λ (k : ℕ). get_or a k (pos 0)) (omega arith)
        ∙ (next-int i (omega arith) (offset-int i (omega arith))).0
        ∙ ap (λ (k : ℕ). pos (edge a k)) (omega arith)

    rises : (i : ℕ) → i + 1 < n → edge a i < edge a (i + 1)
    rises i q = (next-int i q (offset-int i (omega arith))).1

    whole : (i : ℕ) → i + 1 < n → edge a (i + 1) % 4 ≡ 0
    whole i q =
        let e : bits (get_or a (3 + i) (pos 0)) ≡ edge a (i + 1) = ap bits (next-int i q (offset-int i (omega arith))).0 ∙ bits-count (edge a (i + 1)) in
        sym (ap (λ (x : ℕ). x % 4) e) ∙ joined-whole a (n - 1) g i (omega arith)

    -- the offset of item n - 1 - k is before the end
    before : (k i : ℕ) → k + i ≡ n - 1 → edge a i < s
    before zero i e =
        let q : bits (get_or a (1 + n) (pos 0)) ≡ edge a i = ap (λ (k : ℕ). bits (get_or a k (pos 0))) (omega arith) ∙ ap bits (offset-int i (omega arith)) ∙ bits-count (edge a i) in
        omega (arith, q, last)
    before (suc k) i e = omega (arith, before k (i + 1) (omega arith), rises i (omega arith))

    -- item i ends correctly
    end-well : (i : ℕ) → i < n → ends a i ≡ true
    end-well i q = well-ends a i (⊎_elim at-end inside (eq-or-lt_of_le (next-most i q)))
      where
        next-most : (i : ℕ) → i < n → i + 1 ≤ n
        next-most i q = omega arith

        at-end : i + 1 ≡ n → Ends a i
        at-end e =
            let w : edge a (i + 1) ≡ s = ap (edge a) e ∙ edge-last in
            record { aligned = ap (λ (x : ℕ). x % 4) w ∙ m; rises = omega (arith, before 0 i (omega arith), w); within = omega (arith, w, h.size_is) }

        inside : i + 1 < n → Ends a i
        inside r =
            record { aligned = whole i r; rises = rises i r; within = omega (arith, before (n - 1 - (i + 1)) (i + 1) (omega arith), h.size_is) }

    pub ends-all : all (ends a) n ≡ true
    ends-all = all_of (ends a) n end-well

  -- if all items end correctly, everything counted and compared holds
  module _ (e : all (ends a) n ≡ true) where
    pub end_of : (i : ℕ) → i < n → Ends a i
    end_of i l = ends-well a i (all-holds (ends a) i n l e)

    -- an item begins before the end
    pub edge-before : (i : ℕ) → i < n → edge a i < s
    edge-before i l = omega (arith, (end_of i l).rises, (end_of i l).within, h.size_is)

    edge-int : (i : ℕ) → i < n → get_or a (2 + i) (pos 0) ≡ pos (edge a i)
    unfolding nat
    edge-int i l =
        let w : num (get_or a (2 + i) (pos 0)) ≡ edge a i = sym (edge-nat i l) in
        count-is-int _ (omega (arith, w, edge-before i l, small)) ∙ ap pos w

    pub bits-edge : (i : ℕ) → i < n → bits (get_or a (2 + i) (pos 0)) ≡ edge a i
    bits-edge i l = ap bits (edge-int i l) ∙ bits-count (edge a i)

    pub ends-aligned : 0 < n → s % 4 ≡ 0
    ends-aligned l =
        let w : edge a (n - 1 + 1) ≡ s = ap (edge a) (omega arith) ∙ edge-last in
        sym (ap (λ (x : ℕ). x % 4) w) ∙ (end_of (n - 1) (omega arith)).aligned

    pub ends_last : 0 < n → bits (get_or a (1 + n) (pos 0)) < s
    ends_last l =
        let w : bits (get_or a (1 + n) (pos 0)) ≡ edge a (n - 1) = ap (λ (k : ℕ). bits (get_or a k (pos 0))) (omega arith) ∙ bits-edge (n - 1) (omega arith) in
        omega (arith, w, edge-before (n - 1) (omega arith))

    -- the offset of the item after item i
    next_edge : (i : ℕ) → i < n - 1 → get_or a (3 + i) (pos 0) ≡ pos (edge a (i + 1))
    next_edge i l = ap (λ (k : ℕ). get_or a k (pos 0)) (omega arith) ∙ edge-int (i + 1) (omega arith)

    pub ends-behind : all (behind_at a) (n - 1) ≡ true
    ends-behind = all_of (behind_at a) (n - 1) go
      where
        go : (i : ℕ) → i < n - 1 → behind_at a i ≡ true
        go i l = unfold behind_at in rw (edge-int i (omega arith), next_edge i l) (lt-ltb _ _ (end_of i (omega arith)).rises)

    pub ends-whole : joined a (n - 1) % 4 ≡ 0
    ends-whole = whole-joined a (n - 1) go
      where
        go : (i : ℕ) → i < n - 1 → bits (get_or a (3 + i) (pos 0)) % 4 ≡ 0
        go i l = rw (next_edge i l, bits-count (edge a (i + 1))) (end_of i (omega arith)).aligned

  -- if an item does not end correctly, not all fit
  pub no-ends : all (ends a) n ≡ false → all (fits a) n ≡ false
  no-ends e = fails (all (fits a) n) (λ f. false≢true (sym e ∙ all_of (ends a) n (λ i l. unfold fits in (both (ends a i) _ (all-holds (fits a) i n l f)).0)))

-- ---- offsets of an area in form

module _ (a : List ℤ) (n : ℕ) (h : Held a n) where
  -- the offset of an item
  pub held-offset : (i : ℕ) → i < n → bits (get_or a (2 + i) (pos 0)) ≡ edge a i
  unfolding nat
  held-offset i l =
      let w : num (get_or a (2 + i) (pos 0)) ≡ edge a i = sym (Form.edge-nat a i (omega (arith, h.count-is))) in
      ap bits (count-is-int _ (omega (arith, w, edge-within a h.shape i (omega (arith, h.count-is)), h.shape.short)) ∙ ap pos w) ∙ bits-count (edge a i)

  -- the offset of the end
  pub held-end : bits (get_or a 0 (pos 0)) ≡ edge a n
  unfolding nat
  held-end =
      let w : num (get_or a 0 (pos 0)) ≡ edge a n = sym (ap (edge a) h.count-is ∙ edge-end a) in
      ap bits (count-is-int (get_or a 0 (pos 0)) (omega (arith, h.shape.short)) ∙ ap pos w) ∙ bits-count (edge a n)
