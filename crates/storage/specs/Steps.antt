-- The results of the steps of adding a table. Assumes nothing.
use Rattle.std.specs.Prelude.{Bool, cond, ◌&&◌, List, ◌∷◌, ℕ, ◌+◌, leb, ℤ, length, Result, Ok, Err}
use Rattle.definitions.specs.Areas.{lay}
use Rattle.definitions.specs.Refusals.{capacity_error}
use Rattle.definitions.specs.Outcome.{Outcome, ok, err, Wrote}
use Rattle.definitions.specs.Storage as Store
use Rattle.delta_making.specs.declared.MakeError.{MakeError}
use Rattle.ticks.specs.declared.Tick.{Tick}
use Rattle.storage.specs.declared.Added.{Added}

-- ints written over the front of an area, if they fit and there is room for the table that they belong to
unfoldable pub making : Bool → List ℤ → Outcome (List ℤ) → Wrote ℕ ℤ
making room out (ok xs w) =
    cond (room && leb (length xs) (length out))
    (record { answer = ok (length xs) w; out = lay xs out })
    (record { answer = err capacity_error w; out = out })
making room out (err n w) = record { answer = err n w; out = out }

-- the answer to a table whose delta was to be made
abbrev pub added_of : Tick → Result ℕ MakeError → Result Added MakeError
added_of base (Ok n) = Ok (record { base = base; ints = n })
added_of base (Err e) = Err e

-- the store afterwards
abbrev pub store_after : Store.Store → Result ℕ MakeError → Store.Store
store_after s (Ok n) = record { count = s.count + 1; ack_tick = s.ack_tick; delta_tick = s.delta_tick }
store_after s (Err e) = s

-- its tables afterwards
abbrev pub tables_after : List Store.StoredSnap → Store.StoredSnap → Result ℕ MakeError → List Store.StoredSnap
tables_after l x (Ok n) = x ∷ l
tables_after l x (Err e) = l
