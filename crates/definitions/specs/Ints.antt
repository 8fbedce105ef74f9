-- Signed 32-bit integers. Assumes nothing.
use Rattle.std.specs.Prelude.{List, [], ◌∷◌, Bool, ℕ, ◌+◌, ◌-◌, ◌%◌, ◌^◌, ltb, ℤ, pos}
use Rattle.std.specs.Int.Signed.{lt_z}
use Rattle.std.specs.Int.{w32}
use Rattle.std.proofs.Common.{of_z, to_z}

-- the 32 bits of an int in two's complement, as a number below 2 ^ 32
unfoldable pub bits : ℤ → ℕ
bits x = of_z w32 x

-- the int with these 32 bits
unfoldable pub from_bits : ℕ → ℤ
from_bits n = to_z w32 n

-- the sum modulo 2 ^ 32
unfoldable pub wrapping_add : ℤ → ℤ → ℤ
wrapping_add a b = from_bits ((bits a + bits b) % 2 ^ 32)

-- the difference modulo 2 ^ 32
unfoldable pub wrapping_sub : ℤ → ℤ → ℤ
wrapping_sub a b = from_bits ((bits a + (2 ^ 32 - bits b)) % 2 ^ 32)

-- the order of keys in which a table is walked
abbrev pub signed_less : ℤ → ℤ → Bool
signed_less a b = lt_z a b

-- the order of keys in which a table is written
abbrev pub unsigned_less : ℤ → ℤ → Bool
unsigned_less a b = ltb (bits a) (bits b)

-- the sum of all, modulo 2 ^ 32
abbrev pub sum : List ℤ → ℤ
sum [] = pos 0
sum (x ∷ xs) = wrapping_add x (sum xs)
