-- The builder of tables with kinds. Assumes nothing.
use Rattle.std.specs.Prelude.{Bool, true, false, cond, ◌&&◌, List, [], ◌∷◌, ℕ, suc, ◌+◌, eqb, ℤ, length}
use Rattle.std.proofs.Math.Option.{Option, some, none}
use Rattle.definitions.specs.Refusals.{not_in_form}
use Rattle.definitions.specs.Outcome.{Outcome, ok, err, return, require, ◌>>=◌, ◌>>◌, Wrote}
use Rattle.definitions.specs.Tables.{Table, key_of, written, insert}
use Rattle.definitions.specs.TableReading.{add_item}
use Rattle.definitions.specs.TableCalls.{held, stored_table, empty_call}
use Rattle.definitions.specs.Types.{TypeId, Ordinal, Uuid, type_of, typed, kind_number, judge_type_id}

-- whether the items of type 0 run from id n on without a gap, four ints each
unfoldable pub kinds_run : ℕ → Table → Bool
kinds_run n [] = true
kinds_run n (x ∷ t) =
    cond (eqb (type_of x) 0) (eqb x.key n && (eqb (length x.values) 4 && kinds_run (suc n) t)) (kinds_run n t)

-- how many items of type 0 there are
unfoldable pub num_kinds : Table → ℕ
num_kinds [] = 0
num_kinds (x ∷ t) = cond (eqb (type_of x) 0) 1 0 + num_kinds t

-- whether types are sound
abbrev pub is_ok : {A : Type 0} → Outcome A → Bool
is_ok (ok a w) = true
is_ok (err n w) = false

-- whether a table is one that a builder builds: kinds from 4000 hex on without a gap, and sound types
unfoldable pub builder_form : Table → Bool
builder_form t = kinds_run 16384 t && is_ok (typed t)

-- the builder's table of an area, or 47
unfoldable pub held_builder : List ℤ → Outcome Table
held_builder area = do
  t ← held area
  require (builder_form t) not_in_form
  return t

-- ---- adding

-- a table with one more item, laid over the front of its area
abbrev pub add_to : List ℤ → Table → ℕ → ℕ → List ℤ → Wrote ℕ ℤ
add_to area t type id values =
    stored_table area (add_item (record { key = key_of type id; values = values }) t)

-- a second call on the area that a first one left, unless the first one's item is refused
abbrev pub step_on : Outcome Table → Wrote ℕ ℤ → (List ℤ → Wrote ℕ ℤ) → Wrote ℕ ℤ
step_on (ok t c) w f = f w.out
step_on (err n c) w f = w

-- the number of the next kind
abbrev pub next_kind : Table → ℕ
next_kind t = 16384 + num_kinds t

-- a table with the item that names a kind
abbrev pub with_kind : Table → ℕ → List ℤ → Table
with_kind t n kind = insert (record { key = key_of 0 n; values = kind }) t

-- an item of a kind that has a number, or of a new kind: the item that names it comes first, stays if it fits, and counts even if it does not
abbrev pub add_of_kind : List ℤ → Table → Option ℕ → List ℤ → ℕ → List ℤ → Wrote ℕ ℤ
add_of_kind area t (some n) kind id values = add_to area t n id values
add_of_kind area t none kind id values =
    step_on (add_item (record { key = key_of 0 (next_kind t); values = kind }) t)
    (add_to area t 0 (next_kind t) kind)
    (λ a. add_to a (with_kind t (next_kind t) kind) (next_kind t) id values)

unfoldable pub add_typed : List ℤ → Table → TypeId → ℕ → List ℤ → Wrote ℕ ℤ
add_typed area t (Ordinal n) id values = add_to area t n id values
add_typed area t (Uuid k) id values = add_of_kind area t (kind_number k t) k id values

-- if the builder's table or the type is refused, the area is left as it was
unfoldable pub add_where : List ℤ → TypeId → ℕ → List ℤ → Outcome Table → Wrote ℕ ℤ
add_where area type id values (ok t w) = add_typed area t type id values
add_where area type id values (err n w) = record { answer = err n w; out = area }

-- ---- the calls

abbrev pub new_call : List ℤ → Wrote ℕ ℤ
new_call out = empty_call out

abbrev pub builder_add_item_call : List ℤ → TypeId → ℕ → List ℤ → Wrote ℕ ℤ
builder_add_item_call area type id values =
    add_where area type id values do
      t ← held_builder area
      judge_type_id type
      return t

-- how many ints the table takes
abbrev pub finish_call : List ℤ → Outcome ℕ
finish_call area = held_builder area >>= λ t. return (length (written t))
