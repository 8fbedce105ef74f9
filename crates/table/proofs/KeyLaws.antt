-- Keys judged one after the other: what one more shows, and what the last key says. Assumes nothing.
use Prim.Native.Nat.{ℕ, suc, ◌+◌, ◌-◌, ◌<◌, ◌≤◌, ◌^◌}
use mathlib.Core.Path.{◌≡◌, refl, sym, ap, ◌∙◌}
use mathlib.Core.Bool.{Bool, true, false, false≢true}
use mathlib.Core.List.{List}
use native.Mathlib.Omega.{arith}
use lib.IntN.{ℤ, pos}
use borrow.Author.Tests.{ltb-true}
use lib.ListN.{get_or}
use lib.Signed.{mag}
use lib.Dec.{leb}
use Rattle.definitions.specs.Tables.{all, ends, fits, lowest, key_at, start}
use Rattle.laws.specs.IntLaws.{bits_below}
use Rattle.laws.specs.TableShape.{Step, both, not_step, step_fits, all-holds, all_more, all-fails, lowest-next, fails}
use Rattle.table.specs.Held.{Head}
use Rattle.table.specs.Keys.{Rising, last_key}
use Rattle.table.proofs.OffsetLaws.{end_of, all_of}

-- the key of an item that fits
key_below : (a : List ℤ) (i : ℕ) → fits a i ≡ true → key_at a i < 2 ^ 32
unfolding fits key_at
key_below a i e =
    bits_below _ (ltb-true _ _ (both (leb (lowest a i) (key_at a i)) _ (both (ends a i) _ e).1).1)

-- if the first i items fit
last_fits : (a : List ℤ) (i : ℕ) → all (fits a) i ≡ true → key_at a (i - 1) ≡ last_key a i
unfolding last_key
last_fits a i e = rw e

-- if they do not
last_none : (a : List ℤ) (i : ℕ) → all (fits a) i ≡ false → 2 ^ 32 ≡ last_key a i
unfolding last_key
last_none a i e = rw e

-- if one of them does not, no longer run of items fits
pub not-all : (a : List ℤ) (i n : ℕ) → i ≤ n → all (fits a) i ≡ false → all (fits a) n ≡ false
not-all a i n l e =
    fails (all (fits a) n) (λ h. false≢true (sym e ∙ all_of (fits a) i (λ j m. all-holds (fits a) j n (omega arith) h)))

-- if there is no last key of some items, one of them does not fit
pub none-fits : (a : List ℤ) (i : ℕ) → 0 < i → 2 ^ 32 ≡ last_key a i → all (fits a) i ≡ false
none-fits a i l e =
    fails (all (fits a) i) (λ h. absurd (omega (arith, key_below a (i - 1) (all-holds (fits a) (i - 1) i (omega arith) h), e ∙ sym (last_fits a i h))))

-- nor is there one for more items
pub still-none : (a : List ℤ) (i n x : ℕ) → 0 < i → i ≤ n → x ≡ last_key a i → x ≡ 2 ^ 32 → 2 ^ 32 ≡ last_key a n
still-none a i n x p l e z = last_none a n (not-all a i n l (none-fits a i p (sym z ∙ e)))

-- the lowest key that may follow some items
lowest-last : (a : List ℤ) (i : ℕ) → 0 < i → lowest a i ≡ suc (key_at a (i - 1))
lowest-last a i l = ap (lowest a) (omega arith) ∙ lowest-next a (i - 1)

-- the first item fits
pub first-rises : (a : List ℤ) (n s k : ℕ) → Head a n s → all (ends a) n ≡ true → 0 < n → k ≡ key_at a 0 → mag (get_or a (start a 0) (pos 0)) < 2 ^ 31 → Rising a n s 1 k
first-rises a n s k h e l is m =
    let d = end_of a n s h e 0 l in
    let f : Step a 0 = record { aligned = d.aligned; rises = d.rises; within = d.within; order = unfold lowest in omega arith; whole = m } in
    record { head = h; ended = e; some = omega arith; fit = all_more (fits a) 0 (unfold all in refl) (step_fits a 0 f); last-is = is }

module _ (a : List ℤ) (n s i last : ℕ) (h : Rising a n s i last) where
  -- if the first m items have a last key, they fit
  pub rising : (m x : ℕ) → 0 < m → x ≡ last_key a m → (x ≡ 2 ^ 32 → ⊥) → Rising a n s m x
  unfolding last_key
  rising m x l e g = go (all (fits a) m) refl
    where
      go : (b : Bool) → all (fits a) m ≡ b → Rising a n s m x
      go true p = record { head = h.head; ended = h.ended; some = l; fit = p; last-is = e ∙ rw p }
      go false p = absurd (g (e ∙ rw p))

  module _ (k : ℕ) (l : i < n) (is : k ≡ key_at a i) where
    -- the next item's key is above it
    pub comes : last < k → mag (get_or a (start a i) (pos 0)) < 2 ^ 31 → k ≡ last_key a (i + 1)
    comes g m =
        let e = end_of a n s h.head h.ended i l in
        let f : Step a i = record { aligned = e.aligned; rises = e.rises; within = e.within; order = omega (arith, h.last-is, is, lowest-last a i h.some); whole = m } in
        is ∙ ap (key_at a) (omega arith) ∙ last_fits a (i + 1) (all_more (fits a) i h.fit (step_fits a i f))

    -- it is not above
    pub too-low : k ≤ last → 2 ^ 32 ≡ last_key a (i + 1)
    too-low g = last_none a (i + 1) (all-fails (fits a) i (i + 1) (omega arith) (not_step a i (λ f. omega (arith, f.order, h.last-is, is, lowest-last a i h.some))))
