-- The offsets of an area's items: how many are above the one before, and their bitwise or. Assumes nothing.
use Rattle.std.specs.Prelude.{Bool, cond, List, ℕ, zero, suc, ◌+◌, ℤ, pos, get_or}
use Rattle.std.specs.Int.Bits.{bit_or}
use Rattle.definitions.specs.Ints.{bits, signed_less}

-- whether item i + 1 begins after item i
unfoldable pub behind_at : List ℤ → ℕ → Bool
behind_at a i = signed_less (get_or a (2 + i) (pos 0)) (get_or a (3 + i) (pos 0))

-- the bitwise or of the offsets of the k items after the first
unfoldable pub joined : List ℤ → ℕ → ℕ
joined a zero = 0
joined a (suc k) = bit_or (joined a k) (bits (get_or a (3 + k) (pos 0)))

-- how many numbers below k satisfy p
unfoldable pub tally : (ℕ → Bool) → ℕ → ℕ
tally p zero = 0
tally p (suc k) = tally p k + cond (p k) 1 0
