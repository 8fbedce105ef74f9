-- What the answers of `manager` mean: the refusal's number and the values of each case. Assumes nothing.
use Rattle.std.specs.Prelude.{List, ℕ, ℤ, Result, Ok, Err, Some, None}
use Rattle.std.proofs.Math.Option.{Option, some, none}
use Rattle.definitions.specs.Warnings.{Counts}
use Rattle.definitions.specs.Outcome.{Outcome, ok, err}
use Rattle.definitions.specs.Manager.{ManagerStep}
use Rattle.format.specs.Numbers.{number}
use Rattle.format.specs.Totals.{counts}
use Rattle.receiver.specs.States.{receiver_of}
use Rattle.storage.specs.States.{store_of}
use Rattle.format.specs.declared.Error.{Error}
use Rattle.ticks.specs.declared.Tick.{Tick}
use Rattle.std.specs.Prelude as Prelude
use Rattle.manager.specs.declared.Handling.{Handling}

-- an answer together with its warning counts
abbrev pub handled_with : Result (Prelude.Option Tick) Error → Counts → Outcome (Option ℤ)
handled_with (Ok (Some t)) w = ok (some t.0) w
handled_with (Ok None) w = ok none w
handled_with (Err e) w = err (number e) w

-- the result of a call, with the four areas afterwards
abbrev pub handlings : Handling → List ℕ → List ℕ → List ℤ → List ℤ → ManagerStep
handlings r parts joined delta area =
    record {
      answer = handled_with r.answer (counts r.warnings);
      receiver = receiver_of r.manager.receiver;
      store = store_of r.manager.storage;
      parts = parts;
      joined = joined;
      delta = delta;
      area = area;
    }
