-- Reading a table from ints and from packed bytes, and adding an item. Assumes nothing.
use Rattle.std.specs.Prelude.{cond, not, List, [], ℕ, zero, suc, ◌+◌, ◌/◌, ◌%◌, ltb, leb, eqb, ℤ, pos, negsuc, length, get_or}
use Rattle.definitions.specs.Refusals.{unexpected_end, int_out_of_range, too_long_snap, too_many_items, offsets_unpacking, invalid_offset, items_unpacking, duplicate_key, non_zero_int_padding}
use Rattle.definitions.specs.Warnings.{ExcessSnapData}
use Rattle.definitions.specs.Outcome.{Outcome, return, refuse, require, warn, warn_if, ◌>>=◌, ◌>>◌}
use Rattle.definitions.specs.Stream.{stream, ints, warnings, is_cut, is_padded}
use Rattle.definitions.specs.Tables.{Item, Table, written, edge, ends, item_at, find, is_some, insert}

-- a table with one more item, which must be new, not one too many and not too long
unfoldable pub add_item : Item → Table → Outcome Table
add_item i t = do
  require (not (is_some (find i.key t))) duplicate_key
  require (ltb (length t) 1024) too_many_items
  require (leb (length (written (insert i t))) 16384) too_long_snap
  return (insert i t)

-- a number of the header, which must not be negative
abbrev pub non_negative : ℤ → Outcome ℕ
non_negative (pos n) = return n
non_negative (negsuc n) = refuse int_out_of_range

-- the header's number at a place
unfoldable pub header_int : List ℤ → ℕ → Outcome ℕ
header_int a i = cond (ltb i (length a)) (non_negative (get_or a i (pos 0))) (refuse unexpected_end)

-- the first n items: the first one begins at 0, and each is added when its end is known
unfoldable pub read_items : List ℤ → ℕ → Outcome Table
read_items a zero = do
  require (eqb (edge a 0) 0) invalid_offset
  return []
read_items a (suc n) = do
  t ← read_items a n
  require (ends a n) invalid_offset
  add_item (item_at a n) t

-- a table of ints; ints after it count a warning
unfoldable pub read_table : List ℤ → Outcome Table
read_table a = do
  bytes ← header_int a 0
  n ← header_int a 1
  require (leb (2 + n) (length a)) offsets_unpacking
  require (eqb (bytes % 4) 0) invalid_offset
  require (leb (2 + n + bytes / 4) (length a)) items_unpacking
  warn_if (ltb (2 + n + bytes / 4) (length a)) ExcessSnapData
  read_items a n

-- a packed table: all integers are read first; one with padding bits refuses it, and one that is cut is dropped with a warning
unfoldable pub read_packed : List ℕ → Outcome Table
read_packed l = do
  warn (warnings (stream l))
  require (not (is_padded (stream l))) non_zero_int_padding
  warn_if (is_cut (stream l)) ExcessSnapData
  read_table (ints (stream l))
