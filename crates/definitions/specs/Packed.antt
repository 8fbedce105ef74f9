-- Packed integers, by the packer's format line. Assumes nothing.
--   ESDD_DDDD EDDD_DDDD EDDD_DDDD EDDD_DDDD PPPP_DDDD
--   E: another byte follows; S: sign; D: digits, the lowest first; P: padding, which must be 0
use Rattle.std.specs.Prelude.{List, [], ◌∷◌, ◌++◌, Bool, true, false, cond, ℕ, zero, suc, ◌+◌, ◌-◌, ◌*◌, ◌/◌, ◌%◌, ◌^◌, eqb, leb, ltb, ℤ, pos, negsuc}
use Rattle.std.specs.Int.Signed.{mag}
use Rattle.definitions.specs.Ints.{from_bits}
use Rattle.definitions.specs.Refusals.{unexpected_end, non_zero_int_padding}
use Rattle.definitions.specs.Warnings.{Counts, OverlongIntEncoding, none, one}
use Rattle.definitions.specs.Outcome.{Outcome, ok, return, refuse}

-- an integer at the front of some bytes, and the bytes after it
pub record Read : Type 0 where
  pub value : ℤ
  pub rest : List ℕ

-- the warnings of an integer
abbrev pub warned : Bool → Counts
warned overlong = cond overlong (one OverlongIntEncoding) none

-- bit 7
abbrev pub extend : ℕ → Bool
extend b = leb 128 b

-- bit 6 of the first byte
abbrev pub sign : ℕ → Bool
sign b = eqb (b / 64 % 2) 1

-- the int with these digits; the sign inverts all 32 bits
unfoldable pub signed : Bool → ℕ → ℤ
signed false d = from_bits d
signed true d = from_bits (2 ^ 32 - 1 - d)

-- the bytes after the first, at most n + 1 of them: d are the digits so far, and w is the weight of the next.
-- A last byte of 0 is overlong. A fifth byte with a padding bit set is refused.
unfoldable pub more : ℕ → ℕ → ℕ → Bool → List ℕ → Outcome Read
more n w d s [] = refuse unexpected_end
more zero w d s (b ∷ bs) =
    cond (leb 16 b) (refuse non_zero_int_padding)
    (ok (record { value = signed s (d + b * w); rest = bs }) (warned (eqb b 0)))
more (suc n) w d s (b ∷ bs) =
    cond (extend b)
    (more n (w * 128) (d + b % 128 * w) s bs)
    (ok (record { value = signed s (d + b * w); rest = bs }) (warned (eqb b 0)))

-- the integer at the front of some bytes, refused if they end inside it or a padding bit is set
unfoldable pub read_int : List ℕ → Outcome Read
read_int [] = refuse unexpected_end
read_int (b ∷ bs) =
    cond (extend b)
    (more 3 64 (b % 64) (sign b) bs)
    (return (record { value = signed (sign b) (b % 64); rest = bs }))

-- ---- writing

-- the digits m above the first six, in at most n + 1 bytes
unfoldable pub write_more : ℕ → ℕ → List ℕ
write_more zero m = m ∷ []
write_more (suc n) m = cond (ltb m 128) (m ∷ []) ((128 + m % 128) ∷ write_more n (m / 128))

-- the sign's bit in the first byte
abbrev pub sign_bit : ℤ → ℕ
sign_bit (pos n) = 0
sign_bit (negsuc n) = 64

-- the shortest form of an int; its digits, `mag x`, are x, or -1 - x if x is negative
unfoldable pub write_int : ℤ → List ℕ
write_int x =
    cond (ltb (mag x) 64)
    ((sign_bit x + mag x) ∷ [])
    ((128 + sign_bit x + mag x % 64) ∷ write_more 3 (mag x / 64))

-- the packed form of some ints
unfoldable pub pack_ints : List ℤ → List ℕ
pack_ints [] = []
pack_ints (x ∷ xs) = write_int x ++ pack_ints xs
