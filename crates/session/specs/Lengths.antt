-- Lengths of areas that suffice for every session, whatever its tables and messages are. Assumes nothing.
use Rattle.std.specs.Prelude.{ℕ, ◌+◌, ◌*◌}

-- ints of a store's area: 100 tables of the greatest length, each behind its tick and its int count
abbrev pub store_area_ints : ℕ
store_area_ints = 100 * (2 + 16384)

-- ints of a delta area: the longest delta between two tables
abbrev pub delta_area_ints : ℕ
delta_area_ints = 18433

-- bytes of either part area and of a packed delta, and ints of scratch: 32 parts of 900 bytes
abbrev pub packed_bytes : ℕ
packed_bytes = 32 * 900
