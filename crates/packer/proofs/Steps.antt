-- Reading an integer at a place, one byte at a time. Assumes nothing.
use mathlib.Core.Path.{◌≡◌, refl, sym, ap, ◌∙◌}
use mathlib.Core.List.{List}
use mathlib.Core.Bool.{Bool, true, false, true≢false, cond, ◌||◌}
use mathlib.Core.Logic.{◌⊎◌, inl, inr, ⊎_elim}
use Prim.Native.Nat.{ℕ, suc, ◌+◌, ◌-◌, ◌*◌, ◌%◌, ◌^◌, ◌≤◌, ◌<◌}
use native.Mathlib.Nat.{mul-le-mul_right}
use native.Mathlib.Numerals.{add-one}
use native.Mathlib.Omega.{arith}
use borrow.Author.Tests.{le-leb, lt-leb, lt-ltb, le-ltb, eq-eqb, eqb-true}
use lib.Dec.{leb, ltb, eqb}
use lib.IntN.{ℤ}
use lib.ListN.{length, drop, get_or, drop_of_length-le, length-drop}
use lib.Seq.{drop-cons}
use Rattle.std.specs.Prelude.{Ok, Err}
use Rattle.definitions.specs.Refusals.{unexpected_end}
use Rattle.definitions.specs.Outcome.{Outcome, ok, refuse}
use Rattle.definitions.specs.Packed.{signed, sign, warned, more, read_int}
use Rattle.definitions.specs.Packer.{IntAt, read_int_at}
use Rattle.laws.specs.Tests.{below}
use Rattle.format.specs.declared.Error.TheVariants.{NonZeroIntPadding}
use Rattle.packer.specs.Answers.{int_read}
use Rattle.packer.specs.Bytes.{more_at}

-- an int at a place before this one
abbrev found : ℤ → ℕ → Bool → Outcome IntAt
found x next overlong = ok (record { value = x; next = next }) (warned overlong)

one_less : (n : ℕ) → 0 < n → suc (n - 1) ≡ n
one_less n h = omega arith

module _ (src : List ℕ) (p : ℕ) where
  abbrev byte : ℕ
  byte = get_or src p 0

  next : p < length src → length src - length (drop (suc p) src) ≡ p + 1
  next h = simp length-drop (omega arith)

  pub read-end : length src ≤ p → read_int_at src p ≡ refuse unexpected_end
  unfolding read_int_at read_int
  read-end h = rw (drop_of_length-le src h)

  pub read_one : p < length src → byte < 128 → read_int_at src p ≡ found (signed (sign byte) (byte % 64)) (p + 1) false
  unfolding read_int_at read_int
  read_one h k = rw (drop-cons src p 0 h, lt-leb 128 byte k, next h)

  pub read_more : p < length src → 128 ≤ byte → read_int_at src p ≡ more_at src (p + 1) 3 64 (byte % 64) (sign byte)
  unfolding read_int_at more_at read_int
  read_more h k = rw (drop-cons src p 0 h, le-leb 128 byte k, add-one)

  module _ (n w d : ℕ) (s : Bool) where
    pub more-end : length src ≤ p → more_at src p n w d s ≡ refuse unexpected_end
    unfolding more_at more
    more-end h = rw (drop_of_length-le src h)

    pub more-one : 0 < n → p < length src → byte < 128 → more_at src p n w d s ≡ found (signed s (d + byte * w)) (p + 1) (eqb byte 0)
    unfolding more_at more
    more-one m h k = rw (← one_less n m, drop-cons src p 0 h, lt-leb 128 byte k, next h)

    next-byte : p < length src → 128 ≤ byte → more_at src p (suc n) w d s ≡ more_at src (p + 1) n (w * 128) (d + byte % 128 * w) s
    unfolding more_at more
    next-byte h k = rw (drop-cons src p 0 h, le-leb 128 byte k, add-one)

  pub more-more : (n w d : ℕ) (s : Bool) → 0 < n → p < length src → 128 ≤ byte → more_at src p n w d s ≡ more_at src (p + 1) (n - 1) (w * 128) (d + byte % 128 * w) s
  more-more n w d s m h k = ap (λ (j : ℕ). more_at src p j w d s) (sym (one_less n m)) ∙ next-byte (n - 1) w d s h k

-- ---- the weights of the bytes after the first

-- how many more bytes may follow the next one, and its weight
pub data Weight : ℕ → ℕ → Type 0 where
  second : Weight 3 64
  third : Weight 2 8192
  fourth : Weight 1 1048576
  last : Weight 0 134217728

pub small : {n w : ℕ} → Weight n w → 0 < n → w ≤ 1048576
small second h = omega arith
small third h = omega arith
small fourth h = omega arith
small last h = omega arith

pub lighter : {n w : ℕ} → Weight n w → 0 < n → Weight (n - 1) (w * 128)
lighter second h = third
lighter third h = fourth
lighter fourth h = last
lighter last h = let z : ⊥ = omega arith in absurd z

-- a byte before the fifth
pub earlier : {n w : ℕ} → Weight n w → (w ≡ 134217728 → ⊥) → 0 < n
earlier second h = omega arith
earlier third h = omega arith
earlier fourth h = omega arith
earlier last h = absurd (h refl)

pub light : {n w : ℕ} → Weight n w → w ≤ 134217728
light second = omega arith
light third = omega arith
light fourth = omega arith
light last = omega arith

-- any byte at its weight
pub heavy : {n w b : ℕ} → Weight n w → b < 256 → b * w < 2 ^ 35
heavy second h = omega arith
heavy third h = omega arith
heavy fourth h = omega arith
heavy last h = omega arith

-- a digit at its weight
pub digit : {b : ℕ} (w : ℕ) → b < 128 → b * w ≤ 127 * w
digit w h = mul-le-mul_right w (omega arith)

-- ---- the last byte

-- no other byte follows, or it is the fifth
pub is_last : (b w : ℕ) → (ltb b 128 || eqb w 134217728) ≡ true → (b < 128) ⊎ (w ≡ 134217728)
is_last b w e =
    ⊎_elim
    (λ (h : b < 128). inl h)
    (λ (h : 128 ≤ b). inr (eqb-true w 134217728 (rw (le-ltb b 128 h) at e)))
    (below b 128)

pub not_last : (b w : ℕ) → (ltb b 128 || eqb w 134217728) ≡ false → (128 ≤ b) × (w ≡ 134217728 → ⊥)
not_last b w e =
    ⊎_elim
    (λ (h : b < 128). absurd (true≢false (rw (lt-ltb b 128 h) at e)))
    (λ (h : 128 ≤ b). (h, λ q. absurd (true≢false (sym (eq-eqb w 134217728 q) ∙ (rw (le-ltb b 128 h) at e)))))
    (below b 128)

module _ (src : List ℕ) (p d : ℕ) (s : Bool) (h : p < length src) where
  -- an integer with these digits that ends here
  abbrev whole : ℕ → Outcome IntAt
  whole m = int_read (cond (leb 2147483648 m) (Err NonZeroIntPadding) (Ok (record { value = signed s m; next = p + 1; overlong = eqb (byte src p) 0 })))

  before-fifth : {n w : ℕ} → Weight n w → 0 < n → d < w → byte src p < 128 → more_at src p n w d s ≡ whole (d + byte src p * w)
  before-fifth {n} {w} k m l b =
      let f : d + byte src p * w < 2147483648 = omega (arith, digit w b, small k m) in
      more-one src p n w d s m h b ∙ rw (lt-leb 2147483648 (d + byte src p * w) f)

  -- the digits of a fifth byte with padding bits take more than 31 bits
  at-fifth : d < 134217728 → more_at src p 0 134217728 d s ≡ whole (d + byte src p * 134217728)
  unfolding more_at more
  at-fifth l =
      ⊎_elim
      (λ (k : byte src p < 16).
      rw (drop-cons src p 0 h, lt-leb 16 (byte src p) k, lt-leb 2147483648 (d + byte src p * 134217728) (omega arith), next src p h))
      (λ (k : 16 ≤ byte src p).
      rw (drop-cons src p 0 h, le-leb 16 (byte src p) k, le-leb 2147483648 (d + byte src p * 134217728) (omega arith)))
      (below (byte src p) 16)

  pub more-last : {n w : ℕ} → Weight n w → d < w → (byte src p < 128) ⊎ (w ≡ 134217728) → more_at src p n w d s ≡ whole (d + byte src p * w)
  more-last second l e = ⊎_elim (λ b. before-fifth second (omega arith) l b) (λ q. let z : ⊥ = omega arith in absurd z) e
  more-last third l e = ⊎_elim (λ b. before-fifth third (omega arith) l b) (λ q. let z : ⊥ = omega arith in absurd z) e
  more-last fourth l e = ⊎_elim (λ b. before-fifth fourth (omega arith) l b) (λ q. let z : ⊥ = omega arith in absurd z) e
  more-last last l e = at-fifth l

-- ---- four bytes after the first, one after the other

module _ (src : List ℕ) (start first : ℕ) where
  -- the digits of the first two bytes, of three, and of four
  abbrev pub two : ℕ
  two = first + byte src start % 128 * 64

  abbrev pub three : ℕ
  three = two + byte src (start + 1) % 128 * 8192

  abbrev pub four : ℕ
  four = three + byte src (start + 1 + 1) % 128 * 1048576

-- the bytes that follow, where each so far says that another one does
module _ (src : List ℕ) (start first : ℕ) (s : Bool) (room : start + 4 ≤ length src) (second-comes : 128 ≤ byte src start) where
  pub from_second : more_at src start 3 64 first s ≡ more_at src (start + 1) 2 8192 (two src start first) s
  from_second = more-more src start 3 64 first s (omega arith) (omega arith) second-comes

  module _ (third-comes : 128 ≤ byte src (start + 1)) where
    pub from-third : more_at src start 3 64 first s ≡ more_at src (start + 1 + 1) 1 1048576 (three src start first) s
    from-third = from_second ∙ more-more src (start + 1) 2 8192 (two src start first) s (omega arith) (omega arith) third-comes

    pub from-fourth :
        128 ≤ byte src (start + 1 + 1) → more_at src start 3 64 first s ≡ more_at src (start + 1 + 1 + 1) 0 134217728 (four src start first) s
    from-fourth fourth-comes =
        from-third ∙ more-more src (start + 1 + 1) 1 1048576 (three src start first) s (omega arith) (omega arith) fourth-comes

-- what is left to read from a place on comes to the same as all of it
pub record Reading (src : List ℕ) (start first : ℕ) (sign : Bool) (at digits weight : ℕ) : Type 0 where
  pub left : ℕ
  pub weighs : Weight left weight
  pub few : digits < weight
  pub same : more_at src start 3 64 first sign ≡ more_at src at left weight digits sign
