-- What the answers of `receiver` mean: the refusal's number or the value of each case. Assumes nothing.
use Rattle.std.specs.Prelude.{false, cond, List, ℕ, ◌*◌, ◌<◌, ◌≤◌, length, Result, Ok, Err, Some, None}
use Rattle.std.proofs.Math.Option.{Option, some, none}
use Rattle.definitions.specs.Areas.{lay_at}
use Rattle.definitions.specs.Refusals.{duplicate_part}
use Rattle.definitions.specs.Warnings.{Counts}
use Rattle.definitions.specs.Outcome.{Outcome, ok, err, refuse}
use Rattle.definitions.specs.Receiver as Receiver
use Rattle.definitions.specs.Tables.{num}
use Rattle.format.specs.Numbers.{number}
use Rattle.format.specs.Totals.{counts}
use Rattle.format.specs.Sources.{flagged}
use Rattle.receiver.specs.States.{receiver_of, receiver_with}
use Rattle.receiver.specs.declared.Received.{Received}
use Rattle.receiver.specs.declared.Received.TheVariants.{Delta, Empty}
use Rattle.receiver.specs.declared.Receiving.{Receiving}
use Rattle.receiver.specs.declared.checked.Part.{Part}
use Rattle.receiver.specs.declared.checked.Taking.{Taking}
use Rattle.format.specs.declared.Error.{Error}
use Rattle.std.specs.Prelude as Prelude

-- an answer with its warning counts
abbrev pub received_with : Result (Prelude.Option Received) Error → Counts → Outcome (Option Receiver.ReceivedDelta)
received_with (Ok None) w = ok none w
received_with (Ok (Some (Delta tick base n crc))) w =
    ok (some (record { delta_tick = base.0; tick = tick.0; data_and_crc = some (record { length = n; crc = crc }) })) w
received_with (Ok (Some (Empty tick base))) w = ok (some (record { delta_tick = base.0; tick = tick.0; data_and_crc = none })) w
received_with (Err e) w = err (number e) w

-- the result of a call, with both areas afterwards
abbrev pub answered : Receiving → List ℕ → List ℕ → Receiver.Receives
answered a area second =
    record {
      answer = received_with a.answer (counts a.warnings);
      receiver = receiver_of a.receiver;
      parts = area;
      joined = second;
    }

-- the same, with separate lengths
abbrev pub taken : Taking → List ℕ → List ℕ → List ℕ → Receiver.Receives
taken a lengths area second =
    record {
      answer = received_with a.answer (counts a.warnings);
      receiver = receiver_with a.ticks lengths;
      parts = area;
      joined = second;
    }

-- ---- steps of a call

-- a call that is refused without a warning
abbrev pub refusing : ℕ → Receiver.Receiver → List ℕ → List ℕ → Receiver.Receives
refusing n r area second = record { answer = refuse n; receiver = r; parts = area; joined = second }

-- a message that is taken, with its warnings
unfoldable pub settled : Counts → Receiver.Taken → Receiver.Receives
settled w t =
    record { answer = ok t.received w; receiver = t.receiver; parts = t.parts; joined = t.joined }

-- part p of a message whose numbers were judged
unfoldable pub taking : Receiver.Receiver → Receiver.Part → ℕ → List ℕ → List ℕ → List ℕ → Receiver.Receives
taking r m p bytes area second =
    cond (Receiver.is_in (Receiver.opened r m).parts p)
    (record {
      answer = err duplicate_part (flagged false (Receiver.differs (Receiver.opened r m).current m));
      receiver = r;
      parts = area;
      joined = second;
    })
    (settled (flagged false (Receiver.differs (Receiver.opened r m).current m))
    (Receiver.put_part r.previous_tick (Receiver.with_part (Receiver.opened r m) p (length bytes)) (lay_at (900 * p) bytes area) second))

-- the result of a part, by how it was judged
abbrev pub judged_as : Result ℕ Error → Receiver.Receiver → Receiver.Part → List ℕ → List ℕ → List ℕ → Receiver.Receives
judged_as (Ok p) r m bytes area second = taking r m p bytes area second
judged_as (Err e) r m bytes area second = refusing (number e) r area second

-- what is known about a part that can be taken
abbrev pub Fits : Result ℕ Error → Part → List ℕ → List ℕ → List ℕ → Type 0
Fits (Ok p) m bytes area second =
    (num m.num_parts ≤ 32) × (p < 32) × (length bytes ≤ 900) × (28800 ≤ length area) × (28800 ≤ length second)
Fits (Err e) m bytes area second = Unit {0}
