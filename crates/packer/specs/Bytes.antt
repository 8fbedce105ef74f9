-- The extend bit of an integer's first byte, and the bytes after it at a place of a slice. Assumes nothing.
use Rattle.std.specs.Prelude.{List, Bool, cond, ◌&&◌, ℕ, leb, ltb, length, drop}
use Rattle.definitions.specs.Outcome.{Outcome}
use Rattle.definitions.specs.Packed.{more}
use Rattle.definitions.specs.Packer.{IntAt, placed}

-- bit 7 of the first byte, where the digits are m
abbrev pub extend_bit : ℕ → ℕ
extend_bit m = cond (ltb m 64) 0 128

-- whether five bytes are those of an integer with padding bits set
abbrev pub padded_bytes : ℕ → ℕ → ℕ → ℕ → ℕ → Bool
padded_bytes a b c d e = leb 128 a && leb 128 b && leb 128 c && leb 128 d && leb 16 e

-- at most n + 1 bytes from a place on: d are the digits so far, and w is the weight of the next one
unfoldable pub more_at : List ℕ → ℕ → ℕ → ℕ → ℕ → Bool → Outcome IntAt
more_at src at n w d s = placed (length src) (more n w d s (drop at src))
