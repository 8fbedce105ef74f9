-- What the types and the answers of `snap` mean. Assumes nothing.
use Rattle.std.specs.Prelude.{Bool, ◌&&◌, List, [], ◌∷◌, ℕ, eqb, ℤ, take, Result, Ok, Err, Option, Some, None}
use Rattle.std.proofs.Math.Option as Maybe
use Rattle.definitions.specs.Outcome.{Outcome, return, refuse, ◌>>=◌, ◌>>◌}
use Rattle.definitions.specs.Tables.{Item, Table}
use Rattle.definitions.specs.TableReading.{read_items, read_table}
use Rattle.definitions.specs.Types.{same_ints, typed, judge_type_id, raw_type_id}
use Rattle.definitions.specs.Types as Types
use Rattle.format.specs.declared.Error.{Error}
use Rattle.format.specs.Numbers.{number}
use Rattle.snap.specs.declared.TypeId.{TypeId}
use Rattle.snap.specs.declared.TypeId.TheVariants as type

-- the type that the caller passes
abbrev pub type_of : TypeId → Types.TypeId
type_of (type.Ordinal n) = Types.Ordinal n
type_of (type.Uuid a b c d) = Types.Uuid (a ∷ b ∷ c ∷ d ∷ [])

-- a raw type, or none
abbrev pub raw_type : Result (Option ℕ) Error → Outcome (Maybe.Option ℕ)
raw_type (Ok (Some n)) = return (Maybe.some n)
raw_type (Ok None) = return Maybe.none
raw_type (Err e) = refuse (number e)

-- a type, or none
abbrev pub type_found : Result (Option TypeId) Error → Outcome (Maybe.Option Types.TypeId)
type_found (Ok (Some t)) = return (Maybe.some (type_of t))
type_found (Ok None) = return Maybe.none
type_found (Err e) = refuse (number e)

-- a number of a kind, or none
abbrev pub number_in : Option ℕ → Maybe.Option ℕ
number_in (Some n) = Maybe.some n
number_in None = Maybe.none

-- whether an item is of type 0 and names a kind
unfoldable pub names_kind : List ℤ → Item → Bool
names_kind k x = eqb (Types.type_of x) 0 && same_ints (take 4 x.values) k

-- n items with sound types
abbrev pub typed_items : List ℤ → ℕ → Outcome Table
typed_items a n = read_items a n >>= typed

-- a table of ints with sound types
abbrev pub typed_table : List ℤ → Outcome Table
typed_table a = read_table a >>= typed

-- the raw type of a type in a table
abbrev pub raw_type_in : Table → Types.TypeId → Outcome (Maybe.Option ℕ)
raw_type_in t type = judge_type_id type >> return (raw_type_id t type)
