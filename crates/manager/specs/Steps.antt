-- The results of the steps of a message. Assumes nothing.
use Rattle.std.specs.Prelude.{◌≡◌, List, [], ℕ, ◌≤◌, leb, ℤ, length, Result, Ok, Err, Some, None}
use Rattle.std.proofs.Math.Option.{Option, some}
use Rattle.definitions.specs.Areas.{lay}
use Rattle.definitions.specs.Warnings.{Counts}
use Rattle.definitions.specs.Warnings as Warnings
use Rattle.definitions.specs.Outcome.{Outcome, ok, err, return, refuse, require, ◌>>=◌, ◌>>◌}
use Rattle.definitions.specs.Deltas.{Delta, written_delta, delta_in}
use Rattle.definitions.specs.Storage as Store
use Rattle.definitions.specs.StorageCalls as Calls
use Rattle.definitions.specs.DeltaReading.{DeltaRead}
use Rattle.definitions.specs.Refusals.{capacity_error}
use Rattle.definitions.specs.Receiver.{Receiver}
use Rattle.definitions.specs.Manager as Manager
use Rattle.laws.specs.WarningKinds.{merge}
use Rattle.format.specs.Numbers.{number}
use Rattle.format.specs.Totals.{counts}
use Rattle.format.specs.declared.Error.{Error}
use Rattle.ticks.specs.declared.Tick.{Tick}
use Rattle.std.specs.Prelude as Prelude
use Rattle.receiver.specs.States.{receiver_of}
use Rattle.receiver.specs.declared.Received.{Received}
use Rattle.receiver.specs.declared.Received.TheVariants as received
use Rattle.receiver.specs.declared.Receiving.{Receiving}
use Rattle.store_area.specs.Stores.{holds_in}
use Rattle.storage.specs.States.{store_of}
use Rattle.storage.specs.Taking.{sum_of}
use Rattle.storage.specs.declared.Storage.{Storage}
use Rattle.storage.specs.declared.checked.Sent.{Sent}
use Rattle.manager.specs.Answers.{handled_with}
use Rattle.manager.specs.declared.Handling.{Handling}

-- the delta that was read into an area, or why none was
abbrev pub read_into : Result ℕ Error → Counts → List ℤ → Outcome Delta
read_into (Ok n) w delta = ok (delta_in [] delta) w
read_into (Err e) w delta = err (number e) w

-- a store's answer, after the warnings of receiver and delta
abbrev pub told_by : Counts → Counts → Outcome ℤ → Outcome (Option ℤ)
told_by w v (ok t u) = ok (some t) (merge w v u)
told_by w v (err n u) = err n (merge w v u)

-- a delta that was read goes into a store, in an area of n ints
unfoldable pub goes : ℕ → Counts → Option ℤ → ℤ → ℤ → Store.Storage → Outcome Delta → Store.Keeps (Option ℤ)
goes n w sum base tick s (ok d v) =
    record {
      answer = told_by w v (Store.add_delta n sum base tick d s).answer;
      storage = (Store.add_delta n sum base tick d s).storage;
    }
goes n w sum base tick s (err e v) = record { answer = err e (merge w v Warnings.none); storage = s }

-- the result of a call for the store and its area
abbrev pub keeps : Handling → List ℤ → Calls.StoreStep (Option ℤ)
keeps r area =
    record {
      answer = handled_with r.answer (counts r.warnings);
      store = store_of r.manager.storage;
      area = area;
    }

-- the answer for a delta that a store took or refused
abbrev pub handled_by : Result Tick Error → Result (Prelude.Option Tick) Error
handled_by (Ok t) = Ok (Some t)
handled_by (Err e) = Err e

-- a delta that was read must fit an area of n ints
unfoldable pub fitting : ℕ → Outcome DeltaRead → Outcome Delta
fitting n o = do
  r ← o
  require (leb r.room n) capacity_error
  return r.delta

-- that area afterwards
abbrev pub delta_left : List ℤ → Outcome Delta → List ℤ
delta_left delta (ok d w) = lay (written_delta d) delta
delta_left delta (err n w) = delta

-- what was received, with the numbers m, goes into the store s as a delta that is read, with both areas before and after
pub record Adds (a : Receiving) (m : Sent) (s : Storage) (delta area : List ℤ) (o : Outcome DeltaRead) (r : Handling) (delta_then area_then : List ℤ) : Type 0 where
  pub store_is : Calls.laid_out area (goes (length area) (counts a.warnings) (sum_of m) m.delta_tick.0 m.tick.0 (holds_in (store_of s) area) (fitting (length delta) o)) ≡ keeps r area_then
  pub receiver-is : receiver_of r.manager.receiver ≡ receiver_of a.receiver
  pub delta-is : delta_then ≡ delta_left delta (fitting (length delta) o)

-- ---- a whole message

-- nothing goes into the store
abbrev pub stopping : Result (Prelude.Option Tick) Error → Receiving → Storage → Handling
stopping x a s =
    record {
      answer = x;
      warnings = a.warnings;
      manager = record { receiver = a.receiver; storage = s };
    }

-- the received bytes, if any, are no more than a part area holds
abbrev pub Short : Result (Prelude.Option Received) Error → Type 0
Short (Ok None) = Unit {0}
Short (Ok (Some (received.Delta tick base n crc))) = n ≤ 28800
Short (Ok (Some (received.Empty tick base))) = Unit {0}
Short (Err e) = Unit {0}

-- what is known of a received message: how many bytes it has, and that its warnings are all of the receiver's kinds
pub record Brought (a : Receiving) : Type 0 where
  pub short : Short a.answer
  pub kinds : counts a.warnings ≡ merge (counts a.warnings) Warnings.none Warnings.none

-- the result of a message, with the store laid out in its area
abbrev pub laid_out : List ℤ → Manager.Handled → Manager.ManagerStep
laid_out area x =
    record {
      answer = x.answer;
      receiver = x.manager.receiver;
      store = Store.beside x.manager.storage;
      parts = x.parts;
      joined = x.joined;
      delta = x.delta;
      area = (Calls.laid_out area (record { answer = x.answer; storage = x.manager.storage })).area;
    }

-- the refusal of a call before anything is done
abbrev pub refusing : ℕ → Receiver → Store.Store → List ℕ → List ℕ → List ℤ → List ℤ → Manager.ManagerStep
refusing n r s parts joined delta area =
    record {
      answer = refuse n;
      receiver = r;
      store = s;
      parts = parts;
      joined = joined;
      delta = delta;
      area = area;
    }
