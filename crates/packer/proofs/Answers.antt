-- What `put_int` and `write_int` come to, case by case. Assumes nothing.
use mathlib.Core.Path.{◌≡◌, refl, sym, ap, ◌∙◌}
use mathlib.Core.List.{List, [], ◌∷◌}
use Prim.Native.Nat.{ℕ, ◌+◌, ◌/◌, ◌%◌, ◌≤◌, ◌<◌}
use native.Mathlib.Omega.{arith}
use borrow.Author.Tests.{le-leb, lt-leb, lt-ltb, le-ltb}
use lib.IntN.{ℤ}
use lib.ListN.{length, set}
use lib.Signed.{mag}
use Rattle.definitions.specs.Areas.{lay_at}
use Rattle.definitions.specs.Refusals.{capacity_error}
use Rattle.definitions.specs.Outcome.{return, refuse}
use Rattle.definitions.specs.Packed.{sign_bit, write_more, write_int}
use Rattle.definitions.specs.Packer.{write_int_at}
use Rattle.laws.specs.AreaLaws.{lay_at-set, lay_at-nothing}
use Rattle.packer.specs.Bytes.{extend_bit}
use Rattle.packer.proofs.Writes.{extend-more, short, long}

-- an int of one byte, and one of more
pub one_byte : (x : ℤ) → mag x < 64 → write_int x ≡ (sign_bit x + mag x) ∷ []
unfolding write_int
one_byte x h = rw (lt-ltb (mag x) 64 h)

pub more_bytes : (x : ℤ) → 64 ≤ mag x → write_int x ≡ (128 + sign_bit x + mag x % 64) ∷ write_more 3 (mag x / 64)
unfolding write_int
more_bytes x h = rw (le-ltb (mag x) 64 h)

module _ (out : List ℕ) (at : ℕ) (x : ℤ) where
  -- there is no room
  pub full : length out < at + length (write_int x) → write_int_at out at x ≡ record { answer = refuse capacity_error; out = out }
  unfolding write_int_at
  full h = rw (lt-leb (at + length (write_int x)) (length out) h)

  module _ (fits : at + length (write_int x) ≤ length out) where
    -- there is room
    pub laid : (r : ℕ) (o : List ℕ) → r ≡ at + length (write_int x) → o ≡ lay_at at (write_int x) out → write_int_at out at x ≡ record { answer = return r; out = o }
    unfolding write_int_at
    laid r o p q = rw (le-leb (at + length (write_int x)) (length out) fits, p, q)

    -- what the three steps of the first byte gave
    module _ (extend sign digits : ℕ) (extend-is : extend ≡ extend_bit (mag x)) (sign-is : sign ≡ sign_bit x) (digits_are : digits ≡ mag x) where
      pub one_written : extend ≡ 0 → (at + 1 ≡ at + length (write_int x)) × (set out at (sign + digits) ≡ lay_at at (write_int x) out)
      one_written none =
          let w = one_byte x (short (mag x) extend-is none) in
          let i : at < length out = omega (arith, ap length w) in
          rw (w, sign-is, digits_are, lay_at-set at (sign_bit x + mag x) [] out i)
          (refl, sym (lay_at-nothing (at + 1) (set out at (sign_bit x + mag x))))

      pub room : (extend ≡ 0 → ⊥) → at + 1 + length (write_more 3 (digits / 64)) ≤ length out
      room some =
          let q = ap (λ (k : ℕ). length (write_more 3 (k / 64))) digits_are in
          omega (arith, q, ap length (more_bytes x (long (mag x) extend-is some)))

      pub more-written :
          (extend ≡ 0 → ⊥) →
          (r : ℕ) (o : List ℕ) →
          r ≡ at + 1 + length (write_more 3 (digits / 64)) →
          o ≡ lay_at (at + 1) (write_more 3 (digits / 64)) (set out at (extend + sign + digits % 64)) →
          (r ≡ at + length (write_int x)) × (o ≡ lay_at at (write_int x) out)
      more-written some r o p q =
          let many = long (mag x) extend-is some in
          let w = more_bytes x many in
          let i : at < length out = omega (arith, ap length w) in
          let is_set = extend-is ∙ sym (extend-more (mag x) many) in
          rw (w, p, q, is_set, sign-is, digits_are, lay_at-set at (128 + sign_bit x + mag x % 64) (write_more 3 (mag x / 64)) out i)
          (omega arith, refl)
