-- The types of a table's items: numbers, and kinds of 16 bytes. Assumes nothing.
use Rattle.std.specs.Prelude.{Bool, true, false, cond, not, ◌&&◌, ◌||◌, List, [], ◌∷◌, ℕ, ◌/◌, ltb, leb, eqb, ℤ, length, take}
use Rattle.std.proofs.Math.Option.{Option, some, none}
use Rattle.definitions.specs.Ints.{bits}
use Rattle.definitions.specs.Refusals.{duplicate_uuid_type, invalid_uuid_type, missing_uuid_type, input_too_long, scratch_too_short, invalid_type_id}
use Rattle.definitions.specs.Warnings.{ExcessUuidItemData}
use Rattle.definitions.specs.Outcome.{Outcome, return, require, warn_if, ◌>>=◌, ◌>>◌, Wrote}
use Rattle.definitions.specs.Tables.{Item, Table, key_of, find, is_some, walk}
use Rattle.definitions.specs.TableReading.{read_table, read_packed}
use Rattle.definitions.specs.TableCalls.{held, stored_table, part_of}
use Rattle.definitions.specs.Applying.{applying}

-- a type: a number, or a kind, whose 16 bytes are four ints, each with its highest byte first
pub data TypeId : Type 0 where
  Ordinal : ℕ → TypeId
  Uuid : List ℤ → TypeId

-- the type of an item
abbrev pub type_of : Item → ℕ
type_of x = x.key / 65536

-- ints of the same bits
unfoldable pub same_ints : List ℤ → List ℤ → Bool
same_ints [] [] = true
same_ints [] (w ∷ ws) = false
same_ints (v ∷ vs) [] = false
same_ints (v ∷ vs) (w ∷ ws) = eqb (bits v) (bits w) && same_ints vs ws

-- whether a kind is among some kinds
unfoldable pub has_kind : List ℤ → List (List ℤ) → Bool
has_kind k [] = false
has_kind k (x ∷ l) = same_ints k x || has_kind k l

-- the kind that an item of type 0 names: its first four ints, of which none may be missing
unfoldable pub kind_named : List ℤ → Outcome (List ℤ)
kind_named values = do
  warn_if (ltb 4 (length values)) ExcessUuidItemData
  require (leb 4 (length values)) invalid_uuid_type
  return (take 4 values)

-- items one after the other, after those that named some kinds: a kind is named once, and a type from 4000 hex up has its item of type 0
unfoldable pub judge_types : Table → List (List ℤ) → List Item → Outcome (Unit {0})
judge_types t kinds [] = return tt
judge_types t kinds (x ∷ l) =
    cond (eqb (type_of x) 0)
    (do
      k ← kind_named x.values
      require (not (has_kind k kinds)) duplicate_uuid_type
      judge_types t (k ∷ kinds) l)
    (do
      require (ltb (type_of x) 16384 || is_some (find (key_of 0 (type_of x)) t)) missing_uuid_type
      judge_types t kinds l)

-- a table whose types are sound, walked in signed order
unfoldable pub typed : Table → Outcome Table
typed t = judge_types t [] (walk t) >> return t

-- ---- the number of a kind, and the kind of a number

-- the number of a kind: the id of the item of type 0 that names it
unfoldable pub kind_number : List ℤ → Table → Option ℕ
kind_number k [] = none
kind_number k (x ∷ t) =
    cond (eqb (type_of x) 0 && same_ints (take 4 x.values) k) (some x.key) (kind_number k t)

-- a type that is a number is from 1 up and below 4000 hex
unfoldable pub judge_type_id : TypeId → Outcome (Unit {0})
judge_type_id (Ordinal n) = require (ltb 0 n && ltb n 16384) invalid_type_id
judge_type_id (Uuid k) = return tt

-- the raw type of a type
unfoldable pub raw_type_id : Table → TypeId → Option ℕ
raw_type_id t (Ordinal n) = some n
raw_type_id t (Uuid k) = kind_number k t

-- the kind that some data names, if it is long enough
abbrev pub kind_in : Option (List ℤ) → Option TypeId
kind_in (some v) = cond (leb 4 (length v)) (some (Uuid (take 4 v))) none
kind_in none = none

-- the type of a raw type; 0 has none
unfoldable pub type_id : Table → ℕ → Option TypeId
type_id t n =
    cond (eqb n 0) none (cond (ltb n 16384) (some (Ordinal n)) (kind_in (find (key_of 0 n) t)))

-- the data of the item with a raw type, if there is one, and an id
abbrev pub item_with : Table → Option ℕ → ℕ → Option (List ℤ)
item_with t (some n) id = find (key_of n id) t
item_with t none id = none

-- the data of the item with a type and an id
unfoldable pub typed_item : List ℤ → TypeId → ℕ → Outcome (Option (List ℤ))
typed_item area type id = do
  t ← held area
  judge_type_id type
  return (item_with t (raw_type_id t type) id)

-- ---- the calls

abbrev pub typed_read_from_ints_call : List ℤ → List ℤ → ℕ → Wrote ℕ ℤ
typed_read_from_ints_call src out scratch =
    stored_table out do
      require (leb 16384 scratch) scratch_too_short
      require (leb (length src) 1048576) input_too_long
      read_table src >>= typed

abbrev pub typed_read_call : List ℕ → List ℤ → ℕ → Wrote ℕ ℤ
typed_read_call src out scratch =
    stored_table out do
      require (leb 16384 scratch && leb (length src) scratch) scratch_too_short
      require (leb (length src) 1048576) input_too_long
      read_packed src >>= typed

abbrev pub typed_read_with_delta_call : List ℤ → List ℤ → List ℤ → ℕ → Wrote ℕ ℤ
typed_read_with_delta_call base delta out scratch = stored_table out (applying base delta scratch >>= typed)

abbrev pub typed_item_call : List ℤ → TypeId → ℕ → List ℤ
typed_item_call area type id = part_of (typed_item area type id)

abbrev pub typed_has_item_call : List ℤ → TypeId → ℕ → Outcome Bool
typed_has_item_call area type id = typed_item area type id >>= λ v. return (is_some v)

abbrev pub raw_type_id_call : List ℤ → TypeId → Outcome (Option ℕ)
raw_type_id_call area type = do
  t ← held area
  judge_type_id type
  return (raw_type_id t type)

abbrev pub type_id_call : List ℤ → ℕ → Outcome (Option TypeId)
type_id_call area n = held area >>= λ t. return (type_id t n)
