-- A call leaves lent areas no shorter than they were. Assumes nothing.
use Rattle.std.specs.Prelude.{◌≡◌, Bool, cond, not, ◌&&◌, List, ℕ, ◌*◌, ◌≤◌, eqb, ltb, ℤ, length}
use Rattle.std.proofs.Math.Path.{refl}
use Rattle.std.proofs.Math.Bool.{true, false}
use Rattle.std.proofs.Math.Option.{Option, some}
use native.Mathlib.Omega.{arith}
use Rattle.std.proofs.Math.Dec.{leb}
use Rattle.definitions.specs.Areas.{lay_at}
use Rattle.definitions.specs.Refusals.{old_delta, invalid_num_parts, invalid_part, duplicate_part, scratch_too_short, part_too_long, not_in_form}
use Rattle.definitions.specs.Warnings.{Counts, Warning, DuplicateSnap, DifferingAttributes}
use Rattle.definitions.specs.Outcome.{Outcome, ok, err, require, warn_if, after, ◌>>◌}
use Rattle.definitions.specs.Tables.{num}
use Rattle.definitions.specs.Deltas.{Delta, written_delta}
use Rattle.definitions.specs.Messages.{SnapMsg, Snap, SnapEmpty, SnapSingle, Message, Distance}
use Rattle.definitions.specs.Receiver.{Receiver, receiver_form, is_old, is_current, is_in, Part, Opened, Taken, count_in, joined, opened, differs, with_part, finish, wait, put_part, take_snap, take_single, take_empty, Receives, ReceivedDelta, leaves}
use Rattle.definitions.specs.Storage.{Storage, Store, Keeps, AddedSnap}
use Rattle.definitions.specs.StorageCalls.{StoreStep, held_storage, after_judging, judge_table, add_snap_step, add_step, set_delta_tick_call}
use Rattle.definitions.specs.Manager.{Manager, Handled, receive, after_reading, after_receiving, handle, managed, fitting_delta, judge_manager}
use Rattle.laws.specs.AreaLaws.{length-lay, length-lay_at}
use Rattle.laws.specs.StoreForm.{area-long}
use Rattle.session.specs.Lengths.{store_area_ints, delta_area_ints}
use Rattle.session.specs.Runs.{ControllerCall, add_snap, set_delta_tick, Controller, controller_call, Printer, left, printer_call}
use Rattle.session.specs.Statement.{PrinterLong}

-- ---- values of an outcome

-- its value, if it has one, has a property
data Yields {A : Type 0} (P : A → Type 0) : Outcome A → Type 0 where
  value : {a : A} {w : Counts} → P a → Yields P (ok a w)
  refusal : {n : ℕ} {w : Counts} → Yields P (err n w)

module _ {A : Type 0} (P : A → Type 0) where
  -- warnings before change no value
  yields-after : (w : Counts) (o : Outcome A) → Yields P o → Yields P (after w o)
  yields-after w o (value p) = value p
  yields-after w o refusal = refusal

  -- nor does a condition
  yields-require : (b : Bool) (n : ℕ) (o : Outcome A) → Yields P o → Yields P (require b n >> o)
  yields-require true n o y = yields-after _ o y
  yields-require false n o y = refusal

  -- nor a warning
  yields-warn : (b : Bool) (k : Warning) (o : Outcome A) → Yields P o → Yields P (warn_if b k >> o)
  yields-warn true k o y = yields-after _ o y
  yields-warn false k o y = yields-after _ o y

-- ---- the receiver

module _ (area second : List ℕ) where
  -- both part areas are as long as they were
  record AsLong (xs ys : List ℕ) : Type 0 where
    first : length xs ≡ length area
    other : length ys ≡ length second

  abbrev TakenLong : Taken → Type 0
  TakenLong t = AsLong t.parts t.joined

  -- a part finishes its tick, or others are missing
  put-long : (previous : Option ℤ) (o : Opened) (p : ℕ) (bytes : List ℕ) → TakenLong (put_part previous o (lay_at p bytes area) second)
  unfolding put_part
  put-long previous o p bytes = go (eqb (count_in o.parts 32) o.current.num_parts)
    where
      go : (b : Bool) → TakenLong (cond b (finish o (lay_at p bytes area) second) (wait previous o (lay_at p bytes area) second))
      go true = record { first = length-lay_at p bytes area; other = length-lay (joined o.parts (lay_at p bytes area) 32) second }
      go false = record { first = length-lay_at p bytes area; other = refl }

  -- a part
  snap-long : (r : Receiver) (m : Part) (bytes : List ℕ) → Yields TakenLong (take_snap r m bytes area second)
  unfolding take_snap
  snap-long r m bytes =
      yields-require TakenLong (receiver_form r) not_in_form _
      (yields-require TakenLong (leb 28800 (length area) && leb 28800 (length second)) scratch_too_short _
      (yields-require TakenLong (leb (length bytes) 900) part_too_long _
      (yields-require TakenLong (not (is_old r m.tick)) old_delta _
      (yields-require TakenLong (leb (num m.num_parts) 32) invalid_num_parts _
      (yields-require TakenLong (ltb (num m.part) (num m.num_parts)) invalid_part _
      (yields-warn TakenLong (differs (opened r m).current m) DifferingAttributes _
      (yields-require TakenLong (not (is_in (opened r m).parts (num m.part))) duplicate_part _
      (value (put-long r.previous_tick (with_part (opened r m) (num m.part) (length bytes)) (900 * num m.part) bytes)))))))))

  -- a single message
  single-long : (r : Receiver) (tick : ℤ) (distance : Distance) (crc : ℤ) (bytes : List ℕ) → Yields TakenLong (take_single r tick distance crc bytes area second)
  unfolding take_single
  single-long r tick distance crc bytes =
      yields-require TakenLong (receiver_form r) not_in_form _
      (yields-require TakenLong (leb 28800 (length second)) scratch_too_short _
      (yields-require TakenLong (leb (length bytes) 900) part_too_long _
      (yields-require TakenLong (not (is_old r tick)) old_delta _
      (yields-warn TakenLong (is_current r tick) DuplicateSnap _
      (value (record { first = refl; other = length-lay bytes second }))))))

  -- an empty message
  empty-long : (r : Receiver) (tick : ℤ) (distance : Distance) → Yields TakenLong (take_empty r tick distance area second)
  unfolding take_empty
  empty-long r tick distance =
      yields-require TakenLong (receiver_form r) not_in_form _
      (yields-require TakenLong (not (is_old r tick)) old_delta _
      (yields-warn TakenLong (is_current r tick) DuplicateSnap _ (value (record { first = refl; other = refl }))))

  -- what the receiver leaves
  leaves-long : (r : Receiver) (o : Outcome Taken) → Yields TakenLong o → AsLong (leaves r area second o).parts (leaves r area second o).joined
  unfolding leaves
  leaves-long r o (value p) = p
  leaves-long r o refusal = record { first = refl; other = refl }

  -- for each kind of message
  receive-long : (r : Receiver) (m : SnapMsg) (bytes : List ℕ) → AsLong (receive r m bytes area second).parts (receive r m bytes area second).joined
  receive-long r (Snap tick distance num_parts part crc) bytes = leaves-long r _ (snap-long r _ bytes)
  receive-long r (SnapSingle tick distance crc) bytes = leaves-long r _ (single-long r tick distance crc bytes)
  receive-long r (SnapEmpty tick distance) bytes = leaves-long r _ (empty-long r tick distance)

-- ---- the manager

-- the areas after a message, except the store's
record HandledLengths (h : Handled) (area second : List ℕ) (delta : List ℤ) : Type 0 where
  parts_are : AsLong area second h.parts h.joined
  delta-is : length h.delta ≡ length delta

module _ (n : ℕ) (s : Storage) (area second : List ℕ) (delta : List ℤ) (r : Receives) (long : AsLong area second r.parts r.joined) where
  -- a delta was read, or refused
  reading-long : (w : Counts) (x : ReceivedDelta) (o : Outcome Delta) → HandledLengths (after_reading n w r x s delta o) area second delta
  unfolding after_reading
  reading-long w x (ok d v) = record { parts_are = long; delta-is = length-lay (written_delta d) delta }
  reading-long w x (err e v) = record { parts_are = long; delta-is = refl }

  -- a message was received, or refused
  receiving-long : (sizes : List ℤ) (o : Outcome (Option ReceivedDelta)) → HandledLengths (after_receiving sizes n r s delta o) area second delta
  unfolding after_receiving
  receiving-long sizes (ok (some x) w) = reading-long w x (fitting_delta sizes r.joined (length delta) x.data_and_crc)
  receiving-long sizes (ok Option.none w) = record { parts_are = long; delta-is = refl }
  receiving-long sizes (err e w) = record { parts_are = long; delta-is = refl }

-- a message for a manager
handle-long : (sizes : List ℤ) (n : ℕ) (g : Manager) (m : Message) (area second : List ℕ) (delta : List ℤ)
    → HandledLengths (handle sizes n g m area second delta) area second delta
unfolding handle
handle-long sizes n g m area second delta =
    receiving-long n g.storage area second delta _ (receive-long area second g.receiver m.numbers m.bytes) sizes _

-- areas that always suffice still do afterwards
pub long-left : (sizes : List ℤ) (p : Printer) (m : Message) (scratch : ℕ) → PrinterLong p → PrinterLong (left (printer_call sizes p m scratch))
long-left sizes p m scratch l = go (judge_manager p.receiver p.store p.area (length p.parts) (length p.joined) scratch)
  where
    go : (o : Outcome Manager) → PrinterLong (left (managed sizes p.receiver p.store m p.parts p.joined p.delta p.area o))
    go (ok g w) =
        unfold managed in
        let h = handle-long sizes (length p.area) g m p.parts p.joined p.delta in
        record {
          area = omega (
            arith,
            area-long (length p.area) (handle sizes (length p.area) g m p.parts p.joined p.delta).manager.storage.snaps,
            l.area,
          );
          delta = rw h.delta-is l.delta;
          parts = rw h.parts_are.first l.parts;
          joined = rw h.parts_are.other l.joined;
        }
    go (err n w) = unfold managed in record { area = l.area; delta = l.delta; parts = l.parts; joined = l.joined }

-- ---- the controller

-- a controller's areas that always suffice
abbrev pub ControllerLong : Controller → Type 0
ControllerLong c = (store_area_ints ≤ length c.area) × (delta_area_ints ≤ length c.delta)

-- a call on a store leaves its area no shorter
judged-long : {A B : Type 0} (s : Store) (area : List ℤ) (o : Outcome B) (f : B → Keeps A) → length area ≤ length (after_judging s area o f).area
unfolding after_judging
judged-long s area (ok x w) f = area-long (length area) (f x).storage.snaps
judged-long s area (err n w) f = omega arith

-- a table's delta is laid over its area, or the area stays
add-long : (k : StoreStep AddedSnap) (o : Outcome AddedSnap) (delta : List ℤ)
    → ((add_step k o delta).area ≡ k.area) × (length (add_step k o delta).delta ≡ length delta)
unfolding add_step
add-long k (ok a w) delta = (refl, length-lay (written_delta a.delta) delta)
add-long k (err n w) delta = (refl, refl)

-- areas that always suffice still do afterwards
pub call_long : (c : Controller) (x : ControllerCall) → ControllerLong c → ControllerLong (controller_call c x).next
unfolding controller_call add_snap_step
call_long c (add_snap tick table) l =
    let k = add_snap_step c.store c.area tick table (length c.delta) in
    let q = add-long k k.answer c.delta in
    let h : length c.area ≤ length k.area = judged-long c.store c.area (judge_table c.store c.area table) _ in
    let m : store_area_ints ≤ length c.area = l.0 in
    (rw q.0 (omega arith), rw q.1 l.1)
call_long c (set_delta_tick tick) l =
    let h : length c.area ≤ length (set_delta_tick_call c.store c.area tick).area = judged-long c.store c.area
    (held_storage c.store c.area) _ in
    let m : store_area_ints ≤ length c.area = l.0 in
    (omega arith, l.1)
