-- The integers of some bytes, one after the other. Assumes nothing.
use Rattle.std.specs.Prelude.{List, [], ◌∷◌, Bool, true, false, cond, ℕ, zero, suc, eqb, ℤ, length}
use Rattle.definitions.specs.Refusals.{non_zero_int_padding}
use Rattle.definitions.specs.Warnings.{Counts, none, plus}
use Rattle.definitions.specs.Outcome.{Outcome, ok, err}
use Rattle.definitions.specs.Packed.{Read, read_int}

-- each integer with its warnings; then nothing is left, or the next integer is cut, or it has padding bits set
pub data Stream : Type 0 where
  int : ℤ → Counts → Stream → Stream
  end : Stream
  cut : Stream
  padded : Stream

-- how a stream ends at an integer that is refused
abbrev pub stopped : ℕ → Stream
stopped n = cond (eqb n non_zero_int_padding) padded cut

-- what was read, and then k of the rest
abbrev pub and_then : Outcome Read → (List ℕ → Stream) → Stream
and_then (ok r w) k = int r.value w (k r.rest)
and_then (err n w) k = stopped n

-- at most n integers
abbrev pub stream_up_to : ℕ → List ℕ → Stream
stream_up_to zero l = end
stream_up_to (suc n) [] = end
stream_up_to (suc n) (b ∷ bs) = and_then (read_int (b ∷ bs)) (λ rest. stream_up_to n rest)

-- all the integers of some bytes, up to one with padding bits: each takes at least one byte
unfoldable pub stream : List ℕ → Stream
stream l = stream_up_to (length l) l

-- the integers of a stream
abbrev pub ints : Stream → List ℤ
ints (int x w s) = x ∷ ints s
ints end = []
ints cut = []
ints padded = []

-- all the warnings of a stream
abbrev pub warnings : Stream → Counts
warnings (int x w s) = plus w (warnings s)
warnings end = none
warnings cut = none
warnings padded = none

-- whether the last integer is cut
abbrev pub is_cut : Stream → Bool
is_cut (int x w s) = is_cut s
is_cut end = false
is_cut cut = true
is_cut padded = false

-- whether it ends at an integer with padding bits
abbrev pub is_padded : Stream → Bool
is_padded (int x w s) = is_padded s
is_padded end = false
is_padded cut = false
is_padded padded = true
