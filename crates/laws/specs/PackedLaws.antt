-- Laws of packed integers: a written int is read back, from one to five bytes. Assumes nothing.
use Rattle.std.specs.Prelude.{◌≡◌, List, [], ◌∷◌, ◌++◌, Bool, true, false, cond, ℕ, zero, suc, ◌+◌, ◌-◌, ◌*◌, ◌/◌, ◌%◌, ◌^◌, ◌≤◌, ◌<◌, ltb, leb, eqb, ℤ, pos, negsuc}
use Rattle.std.proofs.Common.{sym, ap, ◌∙◌, ⊎_elim, add-mul, mul_assoc, mul_comm, arith, lt-ltb, le-ltb, le-leb, ne_eqb, eq-eqb, SFits}
use Rattle.std.proofs.Math.Nat.{pow-succ'}
use Rattle.std.proofs.lemmas.Bool.{lt-leb}
use Rattle.std.specs.Int.{w32}
use Rattle.definitions.specs.Ints.{bits, from_bits}
use Rattle.definitions.specs.Outcome.{Outcome, return}
use Rattle.definitions.specs.Packed.{Read, signed, sign, more, read_int, write_more, write_int}
use Rattle.laws.specs.Tests.{below}
use Rattle.laws.specs.IntLaws.{from_bits-bits}

-- ---- reading what was written

-- an int without warnings, and what follows it
abbrev plain : ℤ → List ℕ → Outcome Read
plain x rest = return (record { value = x; rest = rest })

-- a digit and those above it, at their weights
weigh : (d m w : ℕ) → d + m % 128 * w + m / 128 * (w * 128) ≡ d + m * w
weigh d m w =
    let e : (m % 128 + m / 128 * 128) * w ≡ m * w = ap (λ (k : ℕ). k * w) (omega arith) in
    let f : m / 128 * (w * 128) ≡ m / 128 * 128 * w = ap (λ (k : ℕ). m / 128 * k) (mul_comm w 128) ∙ sym (mul_assoc (m / 128) 128 w) in
    omega (arith, e, f, add-mul (m % 128) (m / 128 * 128) w)

more-write : (n w d m : ℕ) (s : Bool) (rest : List ℕ) → 0 < m → m < 16 * 128 ^ n → more n w d s (write_more n m ++ rest) ≡ plain (signed s (d + m * w)) rest
unfolding more write_more
more-write zero w d m s rest p q =
    let z : eqb m 0 ≡ false = ne_eqb m 0 (omega arith) in
    let y : leb 16 m ≡ false = lt-leb 16 m (omega arith) in
    rw (y, z)
more-write (suc n) w d m s rest p q =
    ⊎_elim
    (λ (k : m < 128).
    let z : eqb m 0 ≡ false = ne_eqb m 0 (omega arith) in
    simp (lt-ltb m 128 k, lt-leb 128 m k, z))
    (λ (k : 128 ≤ m).
    let x : leb 128 (128 + m % 128) ≡ true = le-leb 128 (128 + m % 128) (omega arith) in
    let y : (128 + m % 128) % 128 ≡ m % 128 = omega arith in
    let u : 128 ^ suc n ≡ 128 * 128 ^ n = pow-succ' 128 n in
    simp (le-ltb m 128 k, x, y)
    (more-write n (w * 128) (d + m % 128 * w) (m / 128) s rest (omega arith) (omega arith)
    ∙ ap (λ (v : ℕ). plain (signed s v) rest) (weigh d m w)))
    (below m 128)

-- what the sign's bit g does to a first byte with the digits k
record Front (g : ℕ) (s : Bool) (k : ℕ) : Type 0 where
  small : g + k < 128
  digits : (g + k) % 64 ≡ k
  digits' : (128 + g + k) % 64 ≡ k
  sign-is : sign (g + k) ≡ s
  sign-is' : sign (128 + g + k) ≡ s

positive : (k : ℕ) → k < 64 → Front 0 false k
positive k h =
    record {
      small = omega arith;
      digits = omega arith;
      digits' = omega arith;
      sign-is = ne_eqb ((0 + k) / 64 % 2) 1 (omega arith);
      sign-is' = ne_eqb ((128 + 0 + k) / 64 % 2) 1 (omega arith);
    }

negative : (k : ℕ) → k < 64 → Front 64 true k
negative k h =
    record {
      small = omega arith;
      digits = omega arith;
      digits' = omega arith;
      sign-is = eq-eqb ((64 + k) / 64 % 2) 1 (omega arith);
      sign-is' = eq-eqb ((128 + 64 + k) / 64 % 2) 1 (omega arith);
    }

front : (g m : ℕ) (s : Bool) (rest : List ℕ) → ((k : ℕ) → k < 64 → Front g s k) → m < 2 ^ 31 → read_int (cond (ltb m 64) ((g + m) ∷ []) ((128 + g + m % 64) ∷ write_more 3 (m / 64)) ++ rest) ≡ plain (signed s m) rest
unfolding read_int
front g m s rest at h =
    ⊎_elim
    (λ (k : m < 64).
    let f = at m k in
    simp (lt-ltb m 64 k, lt-leb 128 (g + m) f.small, f.digits, f.sign-is))
    (λ (k : 64 ≤ m).
    let f = at (m % 64) (omega arith) in
    let e : m % 64 + m / 64 * 64 ≡ m = omega arith in
    simp (le-ltb m 64 k, le-leb 128 (128 + g + m % 64) (omega arith), f.digits', f.sign-is')
    (more-write 3 64 (m % 64) (m / 64) s rest (omega arith) (omega arith)
    ∙ ap (λ (v : ℕ). plain (signed s v) rest) e))
    (below m 64)

-- an int that was written is read back without a warning, whatever follows
pub read-write : (x : ℤ) (rest : List ℕ) → SFits w32 x → read_int (write_int x ++ rest) ≡ return (record { value = x; rest = rest })
unfolding signed bits write_int
read-write (pos n) rest f =
    front 0 n false rest positive f.sfits ∙ ap (λ (v : ℤ). plain v rest) (from_bits-bits f)
read-write (negsuc n) rest f =
    let e : 2 ^ 32 - 1 - n ≡ 2 ^ 32 - suc n = omega arith in
    front 64 n true rest negative f.sfits
    ∙ ap (λ (v : ℤ). plain v rest) (ap from_bits e ∙ from_bits-bits f)
