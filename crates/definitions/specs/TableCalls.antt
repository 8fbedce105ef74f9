-- The calls on table areas. Assumes nothing.
use Rattle.std.specs.Prelude.{Bool, ◌&&◌, List, [], ◌∷◌, ℕ, zero, suc, leb, ℤ, length}
use Rattle.std.proofs.Math.Option.{Option, some, none}
use Rattle.definitions.specs.Ints.{from_bits}
use Rattle.definitions.specs.Refusals.{scratch_too_short, input_too_long, not_in_form}
use Rattle.definitions.specs.Outcome.{Outcome, ok, err, return, refuse, require, ◌>>=◌, ◌>>◌, Wrote}
use Rattle.definitions.specs.Packed.{pack_ints}
use Rattle.definitions.specs.Stored.{stored}
use Rattle.definitions.specs.Tables.{Item, Table, written, table_of, find, is_some, walk, crc}
use Rattle.definitions.specs.TableReading.{add_item, read_table, read_packed}

-- what was found in an area, or 47
module _ {A : Type 0} where
  abbrev pub or_not_in_form : Option A → Outcome A
  or_not_in_form (some a) = return a
  or_not_in_form none = refuse not_in_form

-- the table that an area holds
unfoldable pub held : List ℤ → Outcome Table
held area = or_not_in_form (table_of area)

-- a table's written form laid over the front of an area
abbrev pub stored_table : List ℤ → Outcome Table → Wrote ℕ ℤ
stored_table out o = stored out (o >>= λ t. return (written t))

-- ---- the calls

abbrev pub empty_call : List ℤ → Wrote ℕ ℤ
empty_call out = stored_table out (return [])

abbrev pub read_from_ints_call : List ℤ → List ℤ → Wrote ℕ ℤ
read_from_ints_call src out =
    stored_table out do
      require (leb (length src) 1048576) input_too_long
      read_table src

-- the length of scratch is judged first
abbrev pub read_call : List ℕ → List ℤ → ℕ → Wrote ℕ ℤ
read_call src out scratch =
    stored_table out do
      require (leb 16384 scratch && leb (length src) scratch) scratch_too_short
      require (leb (length src) 1048576) input_too_long
      read_packed src

abbrev pub write_to_ints_call : List ℤ → List ℤ → Wrote ℕ ℤ
write_to_ints_call area out = stored_table out (held area)

abbrev pub write_call : List ℤ → List ℕ → Wrote ℕ ℕ
write_call area out = stored out (held area >>= λ t. return (pack_ints (written t)))

abbrev pub add_item_call : List ℤ → Item → Wrote ℕ ℤ
add_item_call area i = stored_table area (held area >>= add_item i)

abbrev pub has_item_call : List ℤ → ℕ → Outcome Bool
has_item_call area k = held area >>= λ t. return (is_some (find k t))

abbrev pub num_items_call : List ℤ → Outcome ℕ
num_items_call area = held area >>= λ t. return (length t)

abbrev pub crc_call : List ℤ → Outcome ℤ
crc_call area = held area >>= λ t. return (crc t)

-- the part of the area that a call returns: empty if there is none, or on a refusal
abbrev pub or_empty : Option (List ℤ) → List ℤ
or_empty (some v) = v
or_empty none = []

abbrev pub part_of : Outcome (Option (List ℤ)) → List ℤ
part_of (ok o w) = or_empty o
part_of (err n w) = []

unfoldable pub item_call : List ℤ → ℕ → List ℤ
item_call area k = part_of (held area >>= λ t. return (find k t))

-- the item at a place of a list
abbrev pub nth : List Item → ℕ → Option Item
nth [] i = none
nth (x ∷ xs) zero = some x
nth (x ∷ xs) (suc i) = nth xs i

abbrev pub key_in : Option Item → Option ℤ
key_in (some x) = some (from_bits x.key)
key_in none = none

abbrev pub values_in : Option Item → Option (List ℤ)
values_in (some x) = some x.values
values_in none = none

-- the key and the data of the i-th item of the signed walk
abbrev pub walk_key_call : List ℤ → ℕ → Outcome (Option ℤ)
walk_key_call area i = held area >>= λ t. return (key_in (nth (walk t) i))

unfoldable pub walk_item_call : List ℤ → ℕ → List ℤ
walk_item_call area i = part_of (held area >>= λ t. return (values_in (nth (walk t) i)))
