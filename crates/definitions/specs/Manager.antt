-- The manager of a printer: a receiver and a store. Assumes nothing.
use Rattle.std.specs.Prelude.{◌&&◌, List, [], ℕ, leb, ℤ, length, take}
use Rattle.std.proofs.Math.Option.{Option, some, none}
use Rattle.definitions.specs.Areas.{lay}
use Rattle.definitions.specs.Refusals.{capacity_error, scratch_too_short, not_in_form}
use Rattle.definitions.specs.Warnings.{Counts, plus}
use Rattle.definitions.specs.Outcome.{Outcome, ok, err, return, require, after, ◌>>=◌, ◌>>◌}
use Rattle.definitions.specs.Stream.{stream}
use Rattle.definitions.specs.Deltas.{Delta, written_delta}
use Rattle.definitions.specs.DeltaReading.{DeltaRead, read_delta}
use Rattle.definitions.specs.Messages.{SnapMsg, Snap, SnapEmpty, SnapSingle, Message}
use Rattle.definitions.specs.Receiver.{Receiver, receiver_form, DataAndCrc, ReceivedDelta, Receives, snap_call, snap_single_call, snap_empty_call}
use Rattle.definitions.specs.Storage.{Storage, Store, beside, store_area, Keeps, add_delta}
use Rattle.definitions.specs.StorageCalls.{held_storage}

-- a receiver and a store
pub record Manager : Type 0 where
  pub receiver : Receiver
  pub storage : Storage

-- the result of a message; its answer is the tick acknowledged, or that parts are missing
pub record Handled : Type 0 where
  pub answer : Outcome (Option ℤ)
  pub manager : Manager
  pub parts : List ℕ
  pub joined : List ℕ
  pub delta : List ℤ

-- ---- the delta of a message

-- the empty delta
abbrev pub empty_delta : Delta
empty_delta = record { deleted = []; updated = [] }

abbrev pub empty_read : DeltaRead
empty_read = record { delta = empty_delta; room = 3 }

-- the received delta: from the joined bytes, or empty if the message was
abbrev pub received_delta : List ℤ → List ℕ → Option DataAndCrc → Outcome DeltaRead
received_delta sizes bytes (some x) = read_delta sizes (stream (take x.length bytes))
received_delta sizes bytes none = return empty_read

-- it must fit the delta area; repeated entries count
unfoldable pub fitting_delta : List ℤ → List ℕ → ℕ → Option DataAndCrc → Outcome Delta
fitting_delta sizes bytes n x = do
  r ← received_delta sizes bytes x
  require (leb r.room n) capacity_error
  return r.delta

abbrev pub sum_of : Option DataAndCrc → Option ℤ
sum_of (some x) = some x.crc
sum_of none = none

-- ---- the steps of a message

-- the receiver takes a message
abbrev pub receive : Receiver → SnapMsg → List ℕ → List ℕ → List ℕ → Receives
receive r (Snap tick d num_parts part crc) bytes parts joined =
    snap_call r (record { tick = tick; distance = d; num_parts = num_parts; part = part; crc = crc })
    bytes parts joined
receive r (SnapSingle tick d crc) bytes parts joined = snap_single_call r tick d crc bytes parts joined
receive r (SnapEmpty tick d) bytes parts joined = snap_empty_call r tick d parts joined

-- nothing went to the store
abbrev pub stopped : Outcome (Option ℤ) → Receives → Storage → List ℤ → Handled
stopped o r s delta =
    record {
      answer = o;
      manager = record { receiver = r.receiver; storage = s };
      parts = r.parts;
      joined = r.joined;
      delta = delta;
    }

-- the store took or refused a delta, after these warnings; the delta area keeps it
abbrev pub went : Counts → Receives → Delta → List ℤ → Keeps ℤ → Handled
went w r d delta k =
    record {
      answer = after w (k.answer >>= λ tick. return (some tick));
      manager = record { receiver = r.receiver; storage = k.storage };
      parts = r.parts;
      joined = r.joined;
      delta = lay (written_delta d) delta;
    }

-- a delta was read, or refused; n is the length of the store's area
unfoldable pub after_reading : ℕ → Counts → Receives → ReceivedDelta → Storage → List ℤ → Outcome Delta → Handled
after_reading n w r x s delta (ok d v) =
    went (plus w v) r d delta (add_delta n (sum_of x.data_and_crc) x.delta_tick x.tick d s)
after_reading n w r x s delta (err e v) = stopped (err e (plus w v)) r s delta

-- a message was received, or refused
unfoldable pub after_receiving : List ℤ → ℕ → Receives → Storage → List ℤ → Outcome (Option ReceivedDelta) → Handled
after_receiving sizes n r s delta (ok (some x) w) =
    after_reading n w r x s delta (fitting_delta sizes r.joined (length delta) x.data_and_crc)
after_receiving sizes n r s delta (ok none w) = stopped (ok none w) r s delta
after_receiving sizes n r s delta (err e w) = stopped (err e w) r s delta

-- a message for a manager
unfoldable pub handle : List ℤ → ℕ → Manager → Message → List ℕ → List ℕ → List ℤ → Handled
handle sizes n g m parts joined delta =
    after_receiving sizes n (receive g.receiver m.numbers m.bytes parts joined) g.storage delta
    (receive g.receiver m.numbers m.bytes parts joined).answer

-- ---- the calls

-- what a call answers, and what it leaves
pub record ManagerStep : Type 0 where
  pub answer : Outcome (Option ℤ)
  pub receiver : Receiver
  pub store : Store
  pub parts : List ℕ
  pub joined : List ℕ
  pub delta : List ℤ
  pub area : List ℤ

-- receiver and store are in form, part areas and scratch long enough
unfoldable pub judge_manager : Receiver → Store → List ℤ → ℕ → ℕ → ℕ → Outcome Manager
judge_manager r s area parts joined scratch = do
  require (receiver_form r) not_in_form
  h ← held_storage s area
  require (leb 28800 scratch && (leb 28800 parts && leb 28800 joined)) scratch_too_short
  return (record { receiver = r; storage = h })

-- if that is refused, all is left as it was
unfoldable pub managed : List ℤ → Receiver → Store → Message → List ℕ → List ℕ → List ℤ → List ℤ → Outcome Manager → ManagerStep
managed sizes r s m parts joined delta area (ok g w) =
    let x : Handled = handle sizes (length area) g m parts joined delta in
    record {
      answer = x.answer;
      receiver = x.manager.receiver;
      store = beside x.manager.storage;
      parts = x.parts;
      joined = x.joined;
      delta = x.delta;
      area = store_area (length area) x.manager.storage.snaps;
    }
managed sizes r s m parts joined delta area (err n w) =
    record {
      answer = err n w;
      receiver = r;
      store = s;
      parts = parts;
      joined = joined;
      delta = delta;
      area = area;
    }

-- a message, known sizes, the areas that are lent, and the length of scratch
abbrev pub message_call : List ℤ → Receiver → Store → Message → List ℕ → List ℕ → List ℤ → List ℤ → ℕ → ManagerStep
message_call sizes r s m parts joined delta area scratch =
    managed sizes r s m parts joined delta area
    (judge_manager r s area (length parts) (length joined) scratch)
