-- A builder's table in an area, and the result of adding to it. Assumes nothing.
use Rattle.std.specs.Prelude.{◌≡◌, true, false, List, ℕ, ◌+◌, ◌/◌, ◌≤◌, ◌<◌, ℤ, length, Option, Some, None}
use Rattle.definitions.specs.Refusals.{not_in_form}
use Rattle.definitions.specs.Outcome.{return, refuse, ◌>>◌, Wrote}
use Rattle.definitions.specs.Tables.{Item, Table, written, find, is_some, items, count, size}
use Rattle.definitions.specs.TableReading.{add_item}
use Rattle.definitions.specs.TableCalls.{stored_table}
use Rattle.definitions.specs.Types.{TypeId, typed, judge_type_id}
use Rattle.definitions.specs.Builder.{kinds_run, num_kinds, is_ok, held_builder, add_where}
use Rattle.format.specs.Numbers.{number}
use Rattle.format.specs.declared.Error.{Error}
use Rattle.table.specs.Held.{Held}
use Rattle.builder.specs.declared.checked.Building.{Building}

-- so many kinds run from 4000 hex on, or they do not
abbrev pub Runs : Table → Option ℕ → Type 0
Runs t (Some r) = (kinds_run 16384 t ≡ true) × (num_kinds t ≡ r) × (r ≤ 1024)
Runs t None = kinds_run 16384 t ≡ false

-- an area holds a builder's table of n items, k ints and m kinds
pub record Built-as (a : List ℤ) (n k m : ℕ) : Type 0 where
  pub builder : held_builder a ≡ return (items a)
  pub held : Held a n
  pub takes : k ≡ 2 + count a + size a / 4
  pub kinds : num_kinds (items a) ≡ m
  pub few : m ≤ 1024
  pub types : is_ok (typed (items a)) ≡ true

-- what an answer says of an area
abbrev pub Built : List ℤ → Option Building → Type 0
Built a (Some b) = Built-as a b.items b.ints b.kinds
Built a None = held_builder a ≡ refuse not_in_form

-- the result of adding an item to the builder's table of an area
abbrev pub added_as : List ℤ → TypeId → ℕ → List ℤ → Wrote ℕ ℤ
added_as a type id values = add_where a type id values (judge_type_id type >> return (items a))

-- a table of n items and so many ints has no item with the key of i, which has d ints, and the area has no room for the table with i
pub record NoRoom (a : List ℤ) (t : Table) (i : Item) (n ints d : ℕ) : Type 0 where
  pub fresh : is_some (find i.key t) ≡ false
  pub count-is : length t ≡ n
  pub takes : length (written t) ≡ ints
  pub more : length i.values ≡ d
  pub lacks : length a < ints + (d + 2)

-- why an item is refused in every such table
abbrev pub RefusesAs : ℕ → ℕ → ℕ → Error → Type 0
RefusesAs n ints d e =
    (a : List ℤ) (t : Table) (i : Item) → NoRoom a t i n ints d → stored_table a (add_item i t) ≡ record { answer = refuse (number e); out = a }
