-- Whether a word is a number or an int, test by test. Assumes nothing.
use mathlib.Core.Path.{◌≡◌, refl, ap}
use mathlib.Core.Bool.{Bool, true, false, ◌&&◌}
use mathlib.Core.List.{List, [], ◌∷◌}
use Rattle.std.specs.Prelude.{Some, None}
use Prim.Native.Nat.{ℕ, ◌+◌, ◌≤◌, ◌<◌}
use native.Mathlib.Numerals.{add-one}
use native.Mathlib.Omega.{arith}
use borrow.Author.Tests.{le-leb, lt-leb, leb-true, eq-eqb, ne_eqb}
use lib.Dec.{leb}
use Rattle.std.specs.List.{list_all}
use Rattle.std.specs.Char.{is_ascii_digit}
use lib.IntN.{ℤ}
use lib.ListN.{length, drop, get_or}
use lib.Seq.{drop-cons}
use Rattle.laws.specs.TableShape.{both}
use Rattle.replay_text.specs.Numbers.{number, int}
use Rattle.rule_text.specs.Arguments.{are_digits, up_to, is_int, type_in, int_in}

-- every character is judged
pub all-digits : (text : List ℕ) → list_all is_ascii_digit text ≡ are_digits text
all-digits [] = refl
all-digits (b ∷ text) = ap (λ (v : Bool). is_ascii_digit b && v) (all-digits text)

module _ (most : ℕ) (text : List ℕ) where
  -- a number that is up to most
  pub up-most : up_to most text ≡ true → number text ≤ most
  unfolding up_to
  up-most e =
      let p = both (leb 1 (length text)) _ e in
      let q = both (leb (length text) 10) _ p.1 in
      leb-true _ _ (both (are_digits text) _ q.1).1

pub int-minus : (text : List ℕ) → 0 < length text → get_or text 0 0 ≡ 45 → up_to 2147483648 (drop 1 text) ≡ is_int text
unfolding is_int
int-minus [] h e = let z : ⊥ = omega arith in absurd z
int-minus (b ∷ text) h e = rw (eq-eqb b 45 e)

-- no character at all is no int either
pub int-plain : (text : List ℕ) → (0 < length text → get_or text 0 0 ≡ 45 → ⊥) → up_to 2147483647 text ≡ is_int text
unfolding is_int up_to
int-plain [] n = refl
int-plain (b ∷ text) n = rw (ne_eqb b 45 (n (omega arith)))

-- ---- what a word is, by its test

module _ (text : List ℕ) where
  pub type-odd : up_to 65535 text ≡ false → None ≡ type_in text
  unfolding type_in
  type-odd e = rw e

  pub type-is : (n : ℕ) → n ≡ number text → up_to 65535 text ≡ true → Some n ≡ type_in text
  unfolding type_in
  type-is n q e = rw (e, q)

  pub int-odd : is_int text ≡ false → None ≡ int_in text
  unfolding int_in
  int-odd e = rw e

  pub int_is : (z : ℤ) → z ≡ int text → is_int text ≡ true → Some z ≡ int_in text
  unfolding int_in
  int_is z q e = rw (e, q)
