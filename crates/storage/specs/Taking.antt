-- The results of the steps of taking a delta. Assumes nothing.
use Rattle.std.specs.Prelude.{◌≡◌, cond, List, [], ℕ, ℤ, Result, Ok, Err, Some, None}
use Rattle.std.specs.Prelude as Prelude
use Rattle.std.proofs.Math.Option.{Option, some, none}
use Rattle.definitions.specs.Warnings.{Counts}
use Rattle.definitions.specs.Outcome.{Outcome, ok, err, refuse, ◌>>◌}
use Rattle.definitions.specs.Tables.{Table, items}
use Rattle.definitions.specs.Deltas.{Delta}
use Rattle.definitions.specs.Storage as Store
use Rattle.definitions.specs.StorageCalls as Calls
use Rattle.format.specs.Numbers.{number}
use Rattle.format.specs.Totals.{counts}
use Rattle.typed_applying.specs.Answers.{applied_typed, typed_table, Stands}
use Rattle.typed_applying.specs.declared.checked.Typed.{Typed}
use Rattle.storage.specs.States.{store_of}
use Rattle.format.specs.declared.Error.{Error}
use Rattle.ticks.specs.declared.Tick.{Tick}
use Rattle.storage.specs.declared.Taking.{Taking}
use Rattle.storage.specs.declared.checked.Sent.{Sent}

-- a sum, if there is one
abbrev pub sum_in : Prelude.Option ℤ → Option ℤ
sum_in (Some k) = some k
sum_in None = none

-- the sum that was sent, if any was
abbrev pub sum_of : Sent → Option ℤ
sum_of m = sum_in m.crc

-- an answer together with its warning counts
abbrev pub taken_with : Result Tick Error → Counts → Outcome ℤ
taken_with (Ok t) w = ok t.0 w
taken_with (Err e) w = err (number e) w

-- the result of the call, with the area afterwards
abbrev pub takings : Taking → List ℤ → Calls.StoreStep ℤ
takings r area =
    record { answer = taken_with r.answer (counts r.warnings); store = store_of r.storage; area = area }

-- a call that is refused without a warning
abbrev pub refusing : ℕ → Store.Store → List ℤ → Calls.StoreStep ℤ
refusing n s area = record { answer = refuse n; store = s; area = area }

-- the table of a base, among tables of which none is older
abbrev pub base_in : ℤ → List Store.StoredSnap → Option Table
base_in tick l = cond (Store.is_negative tick) (some []) (Store.oldest_at tick l)

-- a delta was applied to a base, and the table that it made is at the front of an area
pub record Applies (o : Option Table) (d : Delta) (out : List ℤ) (r : Typed) : Type 0 where
  pub made : (b : Table) → o ≡ some b → applied_typed b d ≡ typed_table (items out) r
  pub stands : Stands out r.table

-- what a delta made, after the warning for its base
abbrev pub warned : ℤ → Outcome Table → Outcome Table
warned base o = Store.warn_weird base >> o

-- a delta for a tick that is new
unfoldable pub adding_on : ℕ → Option ℤ → ℤ → ℤ → Delta → Store.Storage → Store.Keeps ℤ
adding_on n sum base tick d s =
    Store.add_on n sum base tick d (Store.with_snaps s (Store.drop_for base s.snaps)) (Store.base_for base s.snaps)
