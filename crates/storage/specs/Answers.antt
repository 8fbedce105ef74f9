-- What the answers of `storage` mean: the refusal's number and the values of each case. Assumes nothing.
use Rattle.std.specs.Prelude.{List, ℤ, Result, Ok, Err, Some, None}
use Rattle.std.proofs.Math.Option.{Option, some, none}
use Rattle.definitions.specs.Refusals.{delta_differing_sizes}
use Rattle.definitions.specs.Warnings.{Counts}
use Rattle.definitions.specs.Outcome.{Outcome, ok, err, return, refuse}
use Rattle.definitions.specs.StorageCalls as Calls
use Rattle.format.specs.Numbers.{number}
use Rattle.format.specs.Totals.{counts}
use Rattle.storage.specs.States.{store_of}
use Rattle.ticks.specs.declared.Tick.{Tick}
use Rattle.format.specs.declared.Error.{Error}
use Rattle.delta_making.specs.declared.MakeError.{MakeError}
use Rattle.delta_making.specs.declared.MakeError.TheVariants.{DifferingSizes, Refused}
use Rattle.std.specs.Prelude as Prelude
use Rattle.storage.specs.declared.Setting.{Setting}
use Rattle.storage.specs.declared.Added.{Added}
use Rattle.storage.specs.declared.Adding.{Adding}

-- the tick of a held table
abbrev pub held_tick : Result (Prelude.Option Tick) Error → Outcome (Option ℤ)
held_tick (Ok (Some t)) = return (some t.0)
held_tick (Ok None) = return none
held_tick (Err e) = refuse (number e)

-- ---- a base tick

-- an answer together with its warning counts
abbrev pub set_with : Result (Unit {0}) Error → Counts → Outcome (Unit {0})
set_with (Ok done) w = ok tt w
set_with (Err e) w = err (number e) w

-- the result of the call, with the area afterwards
abbrev pub settings : Setting → List ℤ → Calls.StoreStep (Unit {0})
settings r area =
    record { answer = set_with r.answer (counts r.warnings); store = store_of r.storage; area = area }

-- ---- adding a table

-- the answer
abbrev pub added_in : Result Added MakeError → Outcome Calls.Added
added_in (Ok x) = return (record { base = x.base.0; ints = x.ints })
added_in (Err (DifferingSizes k)) = refuse delta_differing_sizes
added_in (Err (Refused e)) = refuse (number e)

-- the key that clashes, if it is that
abbrev pub added_clash : Result Added MakeError → Option ℤ
added_clash (Ok x) = none
added_clash (Err (DifferingSizes k)) = some k
added_clash (Err (Refused e)) = none

-- the result of the call, with both areas afterwards
abbrev pub addings : Adding → List ℤ → List ℤ → Calls.AddStep
addings r area delta =
    record { answer = added_in r.answer; store = store_of r.storage; area = area; delta = delta }
