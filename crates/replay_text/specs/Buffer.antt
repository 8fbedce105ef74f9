-- A buffer that receives text, and an area that receives ints. Assumes nothing.
use Rattle.std.specs.Prelude.{◌≡◌, cond, List, [], ◌∷◌, ℕ, ◌+◌, ◌≤◌, ltb, ℤ, length, set, take}

-- a buffer, and the place after what was written
pub record Put : Type 0 where
  pub next : ℕ
  pub out : List ℕ

-- one more byte; a full buffer is unchanged
unfoldable pub put_byte : ℕ → Put → Put
put_byte b p =
    cond (ltb p.next (length p.out))
    (record { next = p.next + 1; out = set p.out p.next b })
    (record { next = length p.out; out = p.out })

-- a text, byte by byte
abbrev pub puts : List ℕ → Put → Put
puts [] p = p
puts (b ∷ text) p = puts text (put_byte b p)

-- an area of ints, and the place after what was written
pub record PutInts : Type 0 where
  pub next : ℕ
  pub out : List ℤ

-- one more int; a full area is unchanged
unfoldable pub put_value : ℤ → PutInts → PutInts
put_value x p =
    cond (ltb p.next (length p.out))
    (record { next = p.next + 1; out = set p.out p.next x })
    (record { next = length p.out; out = p.out })

-- ints, one after the other
abbrev pub put_values : List ℤ → PutInts → PutInts
put_values [] p = p
put_values (x ∷ ints) p = put_values ints (put_value x p)

-- n counts ints at the start of xs; the second part follows from the first
abbrev pub CountsInts : ℕ → List ℤ → Type 0
CountsInts n xs = (n ≤ length xs) × (n ≡ length (take n xs))
