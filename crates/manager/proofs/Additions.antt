-- A delta that was read goes into the store: the answer, and what is left. Assumes nothing.
use mathlib.Core.Path.{◌≡◌, refl, sym, ap, ap₂, ◌∙◌}
use mathlib.Core.List.{List, []}
use mathlib.Core.Option.{Option, some, none}
use Prim.Native.Nat.{ℕ}
use lib.IntN.{ℤ}
use lib.ListN.{length, take}
use Rattle.definitions.specs.Warnings.{Counts, plus}
use Rattle.definitions.specs.Warnings as Warnings
use Rattle.definitions.specs.Outcome.{Outcome, ok, err, return, after, ◌>>=◌}
use Rattle.definitions.specs.Stream.{stream}
use Rattle.definitions.specs.Deltas.{Delta, delta_in}
use Rattle.definitions.specs.DeltaReading.{DeltaRead, read_delta}
use Rattle.definitions.specs.Receiver as Receiver
use Rattle.definitions.specs.Storage as Store
use Rattle.definitions.specs.StorageCalls as Calls
use Rattle.definitions.specs.Manager as Manager
use Rattle.laws.specs.WarningLaws.{plus_none}
use Rattle.laws.specs.WarningKinds.{merge, of_receiver, of_reading, of_store, merges, Told, value, refusal, Any}
use Rattle.laws.specs.StoreKinds.{add-told}
use Rattle.format.specs.Numbers.{number}
use Rattle.format.specs.Totals.{counts}
use Rattle.ticks.specs.declared.Tick.{Tick}
use Rattle.format.specs.declared.Error.{Error}
use Rattle.format.specs.declared.Reading.{Reading}
use Rattle.receiver.specs.States.{receiver_of}
use Rattle.receiver.specs.Answers.{received_with, answered}
use Rattle.receiver.specs.declared.Received.{Received}
use Rattle.receiver.specs.declared.Received.TheVariants as received
use Rattle.receiver.specs.declared.Receiving.{Receiving}
use Rattle.store_area.specs.Stores.{holds_in, Holds, beside-is}
use Rattle.storage.specs.States.{store_of}
use Rattle.storage.specs.Taking.{sum_of, taken_with, takings}
use Rattle.storage.specs.declared.Storage.{Storage}
use Rattle.storage.specs.declared.Taking.{Taking}
use Rattle.storage.specs.declared.checked.Sent.{Sent}
use Rattle.manager.specs.Answers.{handled_with, handlings}
use Rattle.manager.specs.Steps.{read_into, told_by, goes, keeps, handled_by, fitting, delta_left, Adds, stopping, Brought, laid_out}
use Rattle.std.specs.Prelude as Prelude
use Rattle.manager.specs.declared.Handling.{Handling}
use Rattle.std.specs.Prelude.{Err, None, Ok, Result, Some}
use Rattle.manager.proofs.ReadStored.{Holding}

-- a store that is unchanged
stays : {A : Type 0} (s : Store.Store) (area : List ℤ) (k : ℕ) → Holds s area k → (o : Outcome A) → Calls.laid_out area (record { answer = o; storage = holds_in s area }) ≡ record { answer = o; store = s; area = area }
stays s area k h o =
    ap₂ (λ (t : Store.Store) (a : List ℤ). record { answer = o; store = t; area = a }) (beside-is s area k h) (sym h.held.stands.area-is)

-- ---- the store's answer

module _ (s : Store.Store) (area : List ℤ) (k : ℕ) (h : Holds s area k) (w v : Counts) (sum : Option ℤ) (base tick : ℤ) (delta : List ℤ) (a : Result ℕ Error) where
  -- the delta goes into the store
  abbrev Goes : Calls.StoreStep (Option ℤ)
  Goes = Calls.laid_out area (goes (length area) w sum base tick (holds_in s area) (read_into a v delta))

  -- reading was refused
  pub not-read : (e : Error) (u : Counts) → a ≡ Err e → u ≡ merge w v Warnings.none → Goes ≡ record { answer = err (number e) u; store = s; area = area }
  unfolding goes
  not-read e u q r =
      ap (λ (x : Result ℕ Error). Calls.laid_out area (goes (length area) w sum base tick (holds_in s area) (read_into x v delta))) q
      ∙ (stays s area k h (err (number e) (merge w v Warnings.none))
      ∙ ap (λ (c : Counts). record { answer = err (number e) c; store = s; area = area }) (sym r))

  -- a store's answer with the warnings of all three
  answers : (x : Result Tick Error) (u : Counts) → told_by w v (taken_with x u) ≡ handled_with (handled_by x) (merge w v u)
  answers (Ok t) u = refl
  answers (Err e) u = refl

  -- it was read, and the store took it or refused
  pub was_read : (n : ℕ) (t : Taking) (x : Result (Prelude.Option Tick) Error) (u : Counts) (out : List ℤ) → a ≡ Ok n → Calls.laid_out area (Store.add_delta (length area) sum base tick (delta_in [] delta) (holds_in s area)) ≡ takings t out → x ≡ handled_by t.answer → u ≡ merge w v (counts t.warnings) → Goes ≡ record { answer = handled_with x u; store = store_of t.storage; area = out }
  unfolding goes
  was_read n t x u out q r f g =
      ap (λ (y : Result ℕ Error). Calls.laid_out area (goes (length area) w sum base tick (holds_in s area) (read_into y v delta))) q
      ∙ (ap (λ (y : Calls.StoreStep ℤ). record { answer = told_by w v y.answer; store = y.store; area = y.area }) r
      ∙ ap (λ (o : Outcome (Option ℤ)). record { answer = o; store = store_of t.storage; area = out })
      (answers t.answer (counts t.warnings) ∙ ap₂ handled_with (sym f) (sym g)))

-- ---- the definition's steps, with each kind of warning from its step

after_store : (w v : Counts) {o : Outcome ℤ} → w ≡ of_receiver w → v ≡ of_reading v → Told of_store (Any {A = ℤ}) o → after (plus w v) (o >>= λ (t : ℤ). return (some t)) ≡ told_by w v o
after_store w v e f (value {a = t} {w = u} p g) = ap (ok (some t)) (ap (plus (plus w v)) (plus_none u) ∙ merges w v u e f g)
after_store w v e f (refusal {n = n} {w = u} g) = ap (err n) (merges w v u e f g)

module _ (n : ℕ) (w : Counts) (r : Receiver.Receives) (x : Receiver.ReceivedDelta) (s : Store.Storage) (delta : List ℤ) (e : w ≡ of_receiver w) where
  -- what is left, by what the store keeps
  abbrev pub leaving : Store.Keeps (Option ℤ) → List ℤ → Manager.Handled
  leaving k d =
      record {
        answer = k.answer;
        manager = record { receiver = r.receiver; storage = k.storage };
        parts = r.parts;
        joined = r.joined;
        delta = d;
      }

  pub reading-goes : {o : Outcome Delta} → Told of_reading (Any {A = Delta}) o → Manager.after_reading n w r x s delta o ≡ leaving (goes n w (Manager.sum_of x.data_and_crc) x.delta_tick x.tick s o) (delta_left delta o)
  unfolding Manager.after_reading goes
  reading-goes (value {a = d} {w = v} p f) =
      let k : Store.Keeps ℤ = Store.add_delta n (Manager.sum_of x.data_and_crc) x.delta_tick x.tick d s in
      ap (λ (o : Outcome (Option ℤ)). leaving (record { answer = o; storage = k.storage }) (delta_left delta (ok d v)))
      (after_store w v e f (add-told n (Manager.sum_of x.data_and_crc) x.delta_tick x.tick d s))
  reading-goes (refusal {n = m} {w = v} f) =
      ap (λ (c : Counts). leaving (record { answer = err m c; storage = s }) delta)
      (sym (plus_none (plus w v)) ∙ merges w v Warnings.none e f refl)

-- what was read into an area went into the store
pub adds : (a : Receiving) (m : Sent) (s : Storage) (delta out area area_then : List ℤ) (o : Outcome DeltaRead) (read : Reading) (r : Handling) → Holding delta read.answer (counts read.warnings) out (fitting (length delta) o) → (Calls.laid_out area (goes (length area) (counts a.warnings) (sum_of m) m.delta_tick.0 m.tick.0 (holds_in (store_of s) area) (read_into read.answer (counts read.warnings) out)) ≡ keeps r area_then) × (receiver_of r.manager.receiver ≡ receiver_of a.receiver) → Adds a m s delta area o r out area_then
adds a m s delta out area area_then o read r h e =
    record {
      store_is =
          ap (λ (x : Outcome Delta). Calls.laid_out area (goes (length area) (counts a.warnings) (sum_of m) m.delta_tick.0 m.tick.0 (holds_in (store_of s) area) x)) (sym h.read_is)
          ∙ e.0;
      receiver-is = e.1;
      delta-is = h.delta-is;
    }

-- ---- what was received

-- an answer whose three layers are known
pub layers : (a : Result (Prelude.Option Received) Error) (o : Prelude.Option Received) (x y : Received) → a ≡ Ok o → o ≡ Some x → x ≡ y → a ≡ Ok (Some y)
layers a o x y e f g = rw (e, f, g)

module _ (a : Receiving) (s : Storage) (parts joined : List ℕ) (sizes delta area : List ℤ) where
  -- the message goes on, with this answer of the receiver
  abbrev With : Result (Prelude.Option Received) Error → Manager.ManagerStep
  With x = laid_out area (Manager.after_receiving sizes (length area) (answered a parts joined) (holds_in (store_of s) area) delta (received_with x (counts a.warnings)))

  -- and so does the code
  abbrev Whole : Manager.ManagerStep
  Whole = With a.answer

  module _ (k : ℕ) (h : Holds (store_of s) area k) where
    -- the store is unchanged
    stopped : (o : Outcome (Option ℤ)) → laid_out area (Manager.stopped o (answered a parts joined) (holds_in (store_of s) area) delta) ≡ record { answer = o; receiver = receiver_of a.receiver; store = store_of s; parts = parts; joined = joined; delta = delta; area = area }
    stopped o =
        ap (λ (y : Calls.StoreStep (Option ℤ)). record { answer = y.answer; receiver = receiver_of a.receiver; store = y.store; parts = parts; joined = joined; delta = delta; area = y.area })
        (stays (store_of s) area k h o)

    -- parts are missing
    pub not_yet : (r : Handling) → a.answer ≡ Ok None → r ≡ stopping (Ok None) a s → Whole ≡ handlings r parts joined delta area
    unfolding Manager.after_receiving
    not_yet r e f = ap With e ∙ (stopped (ok none (counts a.warnings)) ∙ ap (λ (y : Handling). handlings y parts joined delta area) (sym f))

    -- the receiver refused
    pub refused : (r : Handling) (n : Error) → a.answer ≡ Err n → r ≡ stopping (Err n) a s → Whole ≡ handlings r parts joined delta area
    unfolding Manager.after_receiving
    refused r n e f = ap With e ∙ (stopped (err (number n) (counts a.warnings)) ∙ ap (λ (y : Handling). handlings y parts joined delta area) (sym f))

  -- a delta went into the store
  module _ (b : Brought a) (m : Sent) (r : Handling) (delta_then area_then : List ℤ) (o : Outcome DeltaRead) (t : Told of_reading (Any {A = Delta}) (fitting (length delta) o)) (i : Adds a m s delta area o r delta_then area_then) where
    -- what is left then
    added : (x : Receiver.ReceivedDelta) → Manager.sum_of x.data_and_crc ≡ sum_of m → x.delta_tick ≡ m.delta_tick.0 → x.tick ≡ m.tick.0 → laid_out area (Manager.after_reading (length area) (counts a.warnings) (answered a parts joined) x (holds_in (store_of s) area) delta (fitting (length delta) o)) ≡ handlings r parts joined delta_then area_then
    added x e f g =
        let w = counts a.warnings in
        let H = holds_in (store_of s) area in
        let O = fitting (length delta) o in
        ap (laid_out area) (reading-goes (length area) w (answered a parts joined) x H delta b.kinds t)
        ∙ (same w H O (Manager.sum_of x.data_and_crc) (sum_of m) x.delta_tick m.delta_tick.0 x.tick m.tick.0 e f g
        ∙ (ap (λ (y : Calls.StoreStep (Option ℤ)). record { answer = y.answer; receiver = receiver_of a.receiver; store = y.store; parts = parts; joined = joined; delta = delta_left delta O; area = y.area }) i.store_is
        ∙ ap₂ (λ (y : Receiver.Receiver) (d : List ℤ). record { answer = handled_with r.answer (counts r.warnings); receiver = y; store = store_of r.manager.storage; parts = parts; joined = joined; delta = d; area = area_then }) (sym i.receiver-is) (sym i.delta-is)))
      where
        same : (w : Counts) (H : Store.Storage) (O : Outcome Delta) (c d : Option ℤ) (p q u v : ℤ) → c ≡ d → p ≡ q → u ≡ v → laid_out area (record { answer = (goes (length area) w c p u H O).answer; manager = record { receiver = receiver_of a.receiver; storage = (goes (length area) w c p u H O).storage }; parts = parts; joined = joined; delta = delta_left delta O }) ≡ laid_out area (record { answer = (goes (length area) w d q v H O).answer; manager = record { receiver = receiver_of a.receiver; storage = (goes (length area) w d q v H O).storage }; parts = parts; joined = joined; delta = delta_left delta O })
        same w H O c d p q u v e f g = rw (e, f, g)

  -- of some bytes
  pub bytes-added : Brought a → (m : Sent) (r : Handling) (delta_then area_then : List ℤ) (tick base : Tick) (n : ℕ) (crc : ℤ) → a.answer ≡ Ok (Some (received.Delta tick base n crc)) → sum_of m ≡ some crc → m.delta_tick ≡ base → m.tick ≡ tick → Told of_reading (Any {A = Delta}) (fitting (length delta) (read_delta sizes (stream (take n joined)))) → Adds a m s delta area (read_delta sizes (stream (take n joined))) r delta_then area_then → Whole ≡ handlings r parts joined delta_then area_then
  unfolding Manager.after_receiving Manager.fitting_delta fitting
  bytes-added b m r delta_then area_then tick base n crc e f g h t i =
      ap With e
      ∙ added b m r delta_then area_then (read_delta sizes (stream (take n joined))) t i (record { delta_tick = base.0; tick = tick.0; data_and_crc = some (record { length = n; crc = crc }) }) (sym f) (ap (λ (t : Tick). t.0) (sym g)) (ap (λ (t : Tick). t.0) (sym h))

  -- the empty one
  pub empty-added : Brought a → (m : Sent) (r : Handling) (delta_then area_then : List ℤ) (tick base : Tick) → a.answer ≡ Ok (Some (received.Empty tick base)) → sum_of m ≡ none → m.delta_tick ≡ base → m.tick ≡ tick → Told of_reading (Any {A = Delta}) (fitting (length delta) (return Manager.empty_read)) → Adds a m s delta area (return Manager.empty_read) r delta_then area_then → Whole ≡ handlings r parts joined delta_then area_then
  unfolding Manager.after_receiving Manager.fitting_delta fitting
  empty-added b m r delta_then area_then tick base e f g h t i =
      ap With e
      ∙ added b m r delta_then area_then (return Manager.empty_read) t i (record { delta_tick = base.0; tick = tick.0; data_and_crc = none }) (sym f) (ap (λ (t : Tick). t.0) (sym g)) (ap (λ (t : Tick). t.0) (sym h))
