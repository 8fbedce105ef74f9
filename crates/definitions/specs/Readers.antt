-- A reader at a place of some entries: the int that it reads from ints, and its place afterwards. Assumes nothing.
use Rattle.std.specs.Prelude.{List, cond, ℕ, ◌-◌, eqb, leb, ℤ, length, drop}
use Rattle.definitions.specs.Refusals.{unexpected_end, input_too_long}
use Rattle.definitions.specs.Outcome.{Outcome, ok, err, require, ◌>>◌}
use Rattle.definitions.specs.Packer.{IntAt}
use Rattle.definitions.specs.Stream.{ints}
use Rattle.definitions.specs.DeltaReading.{Got, int_stream, next}

-- what was read from the end of n ints: the rest begins at the next place
abbrev pub placed_int : ℕ → Outcome (Got ℤ) → Outcome IntAt
placed_int n (ok g w) = ok (record { value = g.value; next = n - length (ints g.rest) }) w
placed_int n (err e w) = err e w

-- the int at a place, as the next one of the stream from there on
unfoldable pub plain_int_at : List ℤ → ℕ → Outcome IntAt
plain_int_at xs at = placed_int (length xs) (next unexpected_end (int_stream (drop at xs)))

-- the same, for at most 1,048,576 ints
unfoldable pub plain_int_call : List ℤ → ℕ → Outcome IntAt
plain_int_call xs at =
    require (leb (length xs) 1048576) input_too_long
    >> plain_int_at xs at

-- the place of a reader of n entries after reading at a place: after the integer, unchanged if there are too many entries, else the end
abbrev pub place_after : ℕ → ℕ → Outcome IntAt → ℕ
place_after n at (ok x w) = x.next
place_after n at (err e w) = cond (eqb e input_too_long) at n
