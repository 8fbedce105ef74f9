-- The messages that carry a delta, and how its bytes are cut into them. Assumes nothing.
use Rattle.std.specs.Prelude.{cond, List, [], ◌∷◌, ℕ, zero, suc, ◌+◌, ◌*◌, ◌/◌, eqb, leb, ℤ, pos, length, take, drop}
use Rattle.std.proofs.Math.Option.{Option, some, none}
use Rattle.definitions.specs.Ints.{wrapping_sub}
use Rattle.definitions.specs.Refusals.{input_too_long}
use Rattle.definitions.specs.Outcome.{Outcome, return, require, ◌>>◌}
use Rattle.definitions.specs.Tables.{list}

-- ---- ticks and distances

-- a distance between two ticks: of another sort than a tick, which is an int, so that no comparison takes one for the other
pub record Distance : Type 0 where
  pub ticks : ℤ

-- the distance from a base's tick to a table's; it wraps on purpose
abbrev pub distance : ℤ → ℤ → Distance
distance tick base = record { ticks = wrapping_sub tick base }

-- the base's tick, from a table's tick and the distance; it wraps on purpose
abbrev pub base_tick : ℤ → Distance → ℤ
base_tick tick d = wrapping_sub tick d.ticks

-- ---- messages

-- the numbers of a message
pub data SnapMsg : Type 0 where
  Snap : (tick : ℤ) (distance : Distance) (num_parts part crc : ℤ) → SnapMsg
  SnapEmpty : (tick : ℤ) (distance : Distance) → SnapMsg
  SnapSingle : (tick : ℤ) (distance : Distance) (crc : ℤ) → SnapMsg

-- a message: its numbers and its bytes
pub record Message : Type 0 where
  pub numbers : SnapMsg
  pub bytes : List ℕ

-- ---- cutting

-- how many parts of 900 bytes some bytes make, the last one shorter
abbrev pub num_parts : List ℕ → ℕ
num_parts x = (length x + 899) / 900

-- part p of some bytes
abbrev pub part_bytes : List ℕ → ℕ → List ℕ
part_bytes x p = take 900 (drop (900 * p) x)

-- message p of those that carry some bytes in several parts
abbrev pub part_message : ℤ → Distance → List ℕ → ℤ → ℕ → Message
part_message tick d x crc p =
    record { numbers = Snap tick d (pos (num_parts x)) (pos p) crc; bytes = part_bytes x p }

-- the messages of some bytes: without bytes an empty one, up to 900 a single one, else parts of 900
unfoldable pub delta_chunks : ℤ → ℤ → List ℕ → ℤ → List Message
delta_chunks tick base x crc =
    cond (eqb (length x) 0)
    (record { numbers = SnapEmpty tick (distance tick base); bytes = [] } ∷ [])
    (cond (leb (length x) 900)
    (record { numbers = SnapSingle tick (distance tick base) crc; bytes = x } ∷ [])
    (list (part_message tick (distance tick base) x crc) (num_parts x)))

-- ---- the calls

-- the message at a place of a list
abbrev pub nth_message : List Message → ℕ → Option Message
nth_message [] i = none
nth_message (m ∷ l) zero = some m
nth_message (m ∷ l) (suc i) = nth_message l i

-- how many messages some bytes make
abbrev pub num_chunks_call : ℤ → ℤ → List ℕ → ℤ → Outcome ℕ
num_chunks_call tick base x crc =
    require (leb (length x) 1048576) input_too_long
    >> return (length (delta_chunks tick base x crc))

-- the i-th of them, if there is one
abbrev pub chunk_call : ℤ → ℤ → List ℕ → ℤ → ℕ → Outcome (Option Message)
chunk_call tick base x crc i =
    require (leb (length x) 1048576) input_too_long
    >> return (nth_message (delta_chunks tick base x crc) i)
