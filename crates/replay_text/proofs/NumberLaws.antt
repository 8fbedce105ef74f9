-- Numbers and bytes as text, one digit after the other. Assumes nothing.
use mathlib.Core.Path.{◌≡◌, refl, ap, ◌∙◌}
use mathlib.Core.Logic.{⊎_elim}
use mathlib.Core.List.{List, [], ◌∷◌, ◌++◌}
use Prim.Native.Nat.{ℕ, zero, suc, ◌+◌, ◌-◌, ◌*◌, ◌/◌, ◌%◌, ◌^◌, ◌≤◌, ◌<◌}
use native.Mathlib.Nat.{pow-succ', one-le-pow, pow-le-pow_right}
use native.Mathlib.Numerals.{add-one}
use native.Mathlib.Omega.{arith}
use borrow.Author.Tests.{eq-eqb, ne_eqb, lt-ltb, le-ltb}
use lib.IntN.{ℤ, pos}
use lib.ListN.{length, drop, get_or, length-drop}
use lib.Seq.{drop-cons}
use Rattle.definitions.specs.Ints.{from_bits, wrapping_sub}
use Rattle.laws.specs.Tests.{below}
use Rattle.io.specs.Digits.{last_digits, hex_digit_ascii, IsDigitCount}
use Rattle.replay_text.specs.Numbers.{number, int, bytes, digit, decimal, decimal_of, signed, list}

-- ---- reading

pub negative-int : (l : List ℕ) → 0 < length l → get_or l 0 0 ≡ 45 → int l ≡ wrapping_sub (pos 0) (from_bits (number (drop 1 l) % 2 ^ 32))
unfolding int
negative-int [] h e = let z : ⊥ = omega arith in absurd z
negative-int (b ∷ l) h e = rw (eq-eqb b 45 e)

-- no digit at all gives 0 too
pub plain_int : (l : List ℕ) → (0 < length l → get_or l 0 0 ≡ 45 → ⊥) → int l ≡ from_bits (number l % 2 ^ 32)
unfolding int from_bits
plain_int [] n = refl
plain_int (b ∷ l) n = rw (ne_eqb b 45 (n (omega arith)))

lone : (l : List ℕ) → length l ≤ 1 → bytes l ≡ []
lone [] h = refl
lone (a ∷ []) h = refl
lone (a ∷ b ∷ l) h = let z : ⊥ = omega arith in absurd z

module _ (text : List ℕ) (i : ℕ) where
  pub bytes_next : {x y : ℕ} → 2 * i + 1 < length text → x ≡ digit (get_or text (2 * i) 0) → y ≡ digit (get_or text (2 * i + 1) 0) → bytes (drop (2 * i) text) ≡ (x * 16 + y) ∷ bytes (drop (2 * (i + 1)) text)
  bytes_next h a b =
      let e : 2 * (i + 1) ≡ suc (suc (2 * i)) = omega arith in
      let k : suc (2 * i) < length text = omega arith in
      let b' = rw (add-one (2 * i)) at b in
      rw (a, b', e, drop-cons text (2 * i) 0 (omega arith), drop-cons text (suc (2 * i)) 0 k)

  pub bytes-done : length text / 2 ≤ i → bytes (drop (2 * i) text) ≡ []
  bytes-done h = lone (drop (2 * i) text) (simp length-drop (omega arith))

-- ---- writing

pub list-next : (l : List ℤ) (i : ℕ) → i < length l → list (drop i l) ≡ (32 ∷ signed (get_or l i (pos 0))) ++ list (drop (i + 1) l)
list-next l i h = rw (add-one, drop-cons l i (pos 0) h)

-- one digit, by the fewest
one-digit : (k n : ℕ) → n < 10 → IsDigitCount 10 1 n (suc k) → last_digits 10 (suc k) n ≡ hex_digit_ascii n ∷ []
one-digit zero n h f =
    let e : n % 10 ≡ n = omega arith in
    rw e
one-digit (suc k) n h f =
    let p : 10 ^ suc k ≡ 10 * 10 ^ k = pow-succ' 10 k in
    let e : suc (suc k) - 1 ≡ suc k = omega arith in
    let g : 10 ^ suc k ≤ n = rw e at (f.2 (omega arith)) in
    let z : ⊥ = omega (arith, one-le-pow k 10 (omega arith)) in absurd z

-- the digits above the last, by the fewest
fewer : (k n : ℕ) → 10 ≤ n → IsDigitCount 10 1 n (suc k) → IsDigitCount 10 1 (n / 10) k
fewer zero n h f = let z : ⊥ = omega (arith, f.1) in absurd z
fewer (suc k) n h f =
    let p : 10 ^ suc (suc k) ≡ 10 * 10 ^ suc k = pow-succ' 10 (suc k) in
    let q : 10 ^ suc k ≡ 10 * 10 ^ k = pow-succ' 10 k in
    let e : suc (suc k) - 1 ≡ suc k = omega arith in
    let d : suc k - 1 ≡ k = omega arith in
    let g : 10 ^ suc k ≤ n = rw e at (f.2 (omega arith)) in
    (omega arith, omega (arith, f.1), λ (_ : 1 < suc k). rw d (omega arith))

spelled : (places k n : ℕ) → k ≤ places → IsDigitCount 10 1 n k → last_digits 10 k n ≡ decimal_of places n
spelled places zero n h f = let z : ⊥ = omega (arith, f.0) in absurd z
spelled zero (suc k) n h f = let z : ⊥ = omega arith in absurd z
spelled (suc places) (suc k) n h f =
    ⊎_elim
    (λ (l : n < 10). one-digit k n l f ∙ (rw (lt-ltb n 10 l)))
    (λ (l : 10 ≤ n). rw (le-ltb n 10 l) (ap (λ (t : List ℕ). t ++ (hex_digit_ascii (n % 10) ∷ [])) (spelled places k (n / 10) (omega arith) (fewer k n l f))))
    (below n 10)

-- below 2^64 twenty digits are enough
few : (k n : ℕ) → n < 2 ^ 64 → IsDigitCount 10 1 n k → k ≤ 20
few k n s f =
    ⊎_elim
    (λ (l : 20 < k). let h : 20 ≤ k - 1 = omega arith in
    let g : 10 ^ 20 ≤ 10 ^ (k - 1) = pow-le-pow_right (omega arith) h in
    let z : ⊥ = omega (arith, f.2 (omega arith)) in absurd z)
    (λ (l : k ≤ 20). l)
    (below 20 k)

pub all-spelled : (k n : ℕ) → n < 2 ^ 64 → IsDigitCount 10 1 n k → last_digits 10 k n ≡ decimal n
unfolding decimal
all-spelled k n h f = spelled 20 k n (few k n h f) f
