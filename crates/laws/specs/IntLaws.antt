-- Laws of 32-bit ints: their bits, wrapping sums and differences, both orders. Assumes nothing.
use Rattle.std.specs.Prelude.{◌≡◌, refl, List, [], ◌∷◌, ◌++◌, true, false, ℕ, suc, ◌+◌, ◌-◌, ◌%◌, ◌^◌, ◌<◌, ◌≤◌, ltb, ℤ, pos, negsuc}
use Rattle.std.proofs.Common.{sym, ◌∙◌, add_assoc, SFits, to_z-of_z}
use Rattle.std.proofs.Math.Path.{ap}
use native.Mathlib.Omega.{arith}
use borrow.Author.Tests.{lt-ltb, le-ltb, ltb-true, ltb-false}
use Rattle.std.specs.Int.Signed.{mag}
use Rattle.std.specs.Int.{w32}
use Rattle.std.proofs.Math.Facts.{of_z-to_z, Fits-of_z, sfits_to_z, sfits_lit}
use Rattle.definitions.specs.Ints.{bits, from_bits, wrapping_add, wrapping_sub, signed_less, sum}
use Rattle.definitions.specs.Deltas.{rank}
use Rattle.laws.specs.Tests.{ltb-same}

-- the bits are below 2 ^ 32
pub bits-lt : {x : ℤ} → SFits w32 x → bits x < 2 ^ 32
unfolding bits
bits-lt f = (Fits-of_z f).fits

bits-zero : bits (pos 0) ≡ 0
unfolding bits
bits-zero = refl

-- the int with the bits of x is x
pub from_bits-bits : {x : ℤ} → SFits w32 x → from_bits (bits x) ≡ x
unfolding bits from_bits
from_bits-bits f = to_z-of_z f

-- the bits of the int with the bits n are n
pub bits-from_bits : {n : ℕ} → n < 2 ^ 32 → bits (from_bits n) ≡ n
unfolding bits from_bits
bits-from_bits h = of_z-to_z {w = w32} (record { fits = h })

-- 32 bits are an int
pub from_bits-fits : {n : ℕ} → n < 2 ^ 32 → SFits w32 (from_bits n)
unfolding from_bits
from_bits-fits h = sfits_to_z {w = w32} (record { fits = h })

-- two ints with the same bits are the same
pub same_bits : {x y : ℤ} → SFits w32 x → SFits w32 y → bits x ≡ bits y → x ≡ y
same_bits f g e = sym (from_bits-bits f) ∙ ap from_bits e ∙ from_bits-bits g

module _ (a b : ℤ) where
  pub bits-wrapping_add : bits (wrapping_add a b) ≡ (bits a + bits b) % 2 ^ 32
  unfolding wrapping_add
  bits-wrapping_add = bits-from_bits (omega arith)

  pub bits-wrapping_sub : bits (wrapping_sub a b) ≡ (bits a + (2 ^ 32 - bits b)) % 2 ^ 32
  unfolding wrapping_sub
  bits-wrapping_sub = bits-from_bits (omega arith)

  pub wrapping_add-fits : SFits w32 (wrapping_add a b)
  unfolding wrapping_add
  wrapping_add-fits = from_bits-fits (omega arith)

  pub wrapping_sub-fits : SFits w32 (wrapping_sub a b)
  unfolding wrapping_sub
  wrapping_sub-fits = from_bits-fits (omega arith)

  pub wrapping_add-comm : wrapping_add a b ≡ wrapping_add b a
  unfolding wrapping_add
  wrapping_add-comm =
      let e : (bits a + bits b) % 2 ^ 32 ≡ (bits b + bits a) % 2 ^ 32 = omega arith in
      ap from_bits e

-- subtracting and adding back
pub wrapping_add-wrapping_sub : {a b : ℤ} → SFits w32 a → SFits w32 b → wrapping_add b (wrapping_sub a b) ≡ a
wrapping_add-wrapping_sub {a} {b} f g =
    same_bits (wrapping_add-fits b (wrapping_sub a b)) f
    (omega (arith, bits-wrapping_add b (wrapping_sub a b), bits-wrapping_sub a b, bits-lt f, bits-lt g))

-- adding and subtracting again
pub wrapping_sub-wrapping_add : {a b : ℤ} → SFits w32 a → SFits w32 b → wrapping_sub (wrapping_add b a) b ≡ a
wrapping_sub-wrapping_add {a} {b} f g =
    same_bits (wrapping_sub-fits (wrapping_add b a) b) f
    (omega (arith, bits-wrapping_sub (wrapping_add b a) b, bits-wrapping_add b a, bits-lt f, bits-lt g))

-- a base, from the distance to it
pub wrapping_sub-wrapping_sub : (a : ℤ) {b : ℤ} → SFits w32 b → wrapping_sub a (wrapping_sub a b) ≡ b
wrapping_sub-wrapping_sub a {b} g =
    same_bits (wrapping_sub-fits a (wrapping_sub a b)) g
    (omega (arith, bits-wrapping_sub a (wrapping_sub a b), bits-wrapping_sub a b, bits-lt g))

fold-left : (x y : ℕ) → (x % 2 ^ 32 + y) % 2 ^ 32 ≡ (x + y) % 2 ^ 32
fold-left x y = omega arith

fold-right : (x y : ℕ) → (x + y % 2 ^ 32) % 2 ^ 32 ≡ (x + y) % 2 ^ 32
fold-right x y = omega arith

pub wrapping_add-assoc : (a b c : ℤ) → wrapping_add (wrapping_add a b) c ≡ wrapping_add a (wrapping_add b c)
wrapping_add-assoc a b c =
    same_bits (wrapping_add-fits (wrapping_add a b) c) (wrapping_add-fits a (wrapping_add b c))
    (simp (bits-wrapping_add, fold-left, fold-right, add_assoc))

-- adding 0 changes nothing
pub wrapping_add-zero : {x : ℤ} → SFits w32 x → wrapping_add x (pos 0) ≡ x
wrapping_add-zero {x} f =
    same_bits (wrapping_add-fits x (pos 0)) f
    (omega (arith, bits-wrapping_add x (pos 0), bits-zero, bits-lt f))

pub zero-wrapping_add : {x : ℤ} → SFits w32 x → wrapping_add (pos 0) x ≡ x
zero-wrapping_add {x} f = wrapping_add-comm (pos 0) x ∙ wrapping_add-zero f

-- ---- by the digits of an int

pub bits_below : (z : ℤ) → mag z < 2 ^ 31 → bits z < 2 ^ 32
bits_below z h = bits-lt {x = z} (record { sfits = h })

pub whole-bits : (z : ℤ) → mag z < 2 ^ 31 → from_bits (bits z) ≡ z
whole-bits z h = from_bits-bits {x = z} (record { sfits = h })

pub bits_back : (n : ℕ) → n < 2 ^ 32 → bits (from_bits n) ≡ n
bits_back n h = bits-from_bits h

pub digits-below : (n : ℕ) → n < 2 ^ 32 → mag (from_bits n) < 2 ^ 31
digits-below n h = (from_bits-fits h).sfits

-- ---- sums

pub sum_fits : (xs : List ℤ) → SFits w32 (sum xs)
sum_fits [] = sfits_lit tt
sum_fits (x ∷ xs) = wrapping_add-fits x (sum xs)

-- the sum of two lists, one behind the other
pub sum-append : (xs ys : List ℤ) → sum (xs ++ ys) ≡ wrapping_add (sum xs) (sum ys)
sum-append [] ys = sym (zero-wrapping_add (sum_fits ys))
sum-append (x ∷ xs) ys = rw (sum-append xs ys) (sym (wrapping_add-assoc x (sum xs) (sum ys)))

-- ---- the two orders

-- the bits turned by half the range: the upper half comes first
abbrev pub turned : ℕ → ℕ
turned n = (n + 2 ^ 31) % 2 ^ 32

-- the signed order of two ints is the unsigned order of their turned bits
pub signed_less-turned : (a b : ℤ) → SFits w32 a → SFits w32 b → signed_less a b ≡ ltb (turned (bits a)) (turned (bits b))
unfolding bits
signed_less-turned (pos a) (pos b) f g =
    ltb-same a b (turned a) (turned b)
    (λ h. omega (arith, f.sfits, g.sfits))
    (λ h. omega (arith, f.sfits, g.sfits))
signed_less-turned (pos a) (negsuc b) f g =
    sym (le-ltb (turned a) (turned (2 ^ 32 - suc b)) (omega (arith, f.sfits, g.sfits)))
signed_less-turned (negsuc a) (pos b) f g =
    sym (lt-ltb (turned (2 ^ 32 - suc a)) (turned b) (omega (arith, f.sfits, g.sfits)))
signed_less-turned (negsuc a) (negsuc b) f g =
    ltb-same b a (turned (2 ^ 32 - suc a)) (turned (2 ^ 32 - suc b))
    (λ h. omega (arith, f.sfits, g.sfits))
    (λ h. omega (arith, f.sfits, g.sfits))

-- so it is the order of their ranks
module _ (a b : ℤ) (f : SFits w32 a) (g : SFits w32 b) where
  pub less-ranks : signed_less a b ≡ true → rank (bits a) < rank (bits b)
  unfolding rank
  less-ranks e = ltb-true (turned (bits a)) (turned (bits b)) (sym (signed_less-turned a b f g) ∙ e)

  pub not-less-ranks : signed_less a b ≡ false → rank (bits b) ≤ rank (bits a)
  unfolding rank
  not-less-ranks e = ltb-false (turned (bits a)) (turned (bits b)) (sym (signed_less-turned a b f g) ∙ e)

-- and the negative ints are those whose bits are from 2^31 on: in unsigned order they come last, in signed order first
module _ (a : ℤ) (f : SFits w32 a) where
  pub negative-high : signed_less a (pos 0) ≡ true → 2 ^ 31 ≤ bits a
  unfolding rank
  negative-high e = omega (arith, less-ranks a (pos 0) f (sfits_lit tt) e, bits-zero, bits-lt f)

  pub not-negative-low : signed_less a (pos 0) ≡ false → bits a < 2 ^ 31
  unfolding rank
  not-negative-low e = omega (arith, not-less-ranks a (pos 0) f (sfits_lit tt) e, bits-zero, bits-lt f)
