-- A session has no false alarms: no message that reaches its printer counts DifferingAttributes. Assumes nothing.
use Rattle.std.specs.Prelude.{◌≡◌, Bool, true, not, ◌&&◌, ℕ, ◌*◌, eqb, ltb, ℤ, pos, length}
use Rattle.std.proofs.Math.Path.{refl, subst}
use Rattle.std.proofs.Common.{sym, ◌∙◌, ap, ap₂, eqb-true}
use mathlib.Core.List.{List, [], ◌∷◌, ◌++◌}
use Rattle.std.proofs.Math.Option.{Option, some}
use Rattle.std.proofs.Math.Dec.{leb}
use Rattle.definitions.specs.Areas.{lay_at}
use Rattle.definitions.specs.Refusals.{old_delta, invalid_num_parts, invalid_part, duplicate_part, scratch_too_short, part_too_long, not_in_form}
use Rattle.definitions.specs.Warnings.{Counts, DuplicateSnap, DifferingAttributes, plus}
use Rattle.definitions.specs.Outcome.{Outcome, ok, err}
use Rattle.definitions.specs.Tables.{Table, num, crc}
use Rattle.definitions.specs.Deltas.{Delta}
use Rattle.definitions.specs.Messages.{Distance, Message, num_parts, part_bytes, distance}
use Rattle.definitions.specs.Receiver.{Current, Receiver, Part, Opened, Taken, Receives, ReceivedDelta, is_in, count_in, receiver_form, is_old, is_current, same, first_says, opened_for, opened, differs, with_part, put_part, take_snap, take_single, take_empty, leaves}
use Rattle.definitions.specs.Storage.{Storage, Store, storage_of}
use Rattle.definitions.specs.StorageCalls.{held_storage}
use Rattle.definitions.specs.TableCalls.{or_not_in_form}
use Rattle.definitions.specs.Manager.{Manager, Handled, ManagerStep, receive, sum_of, after_reading, after_receiving, handle, judge_manager, managed}
use Rattle.laws.specs.WarningLaws.{set}
use Rattle.laws.specs.WarningKinds.{Told, value, refusal, Any, Closed, later, returns, given, warns, spared, then, wider}
use Rattle.laws.specs.ReadKinds.{fitting-told}
use Rattle.laws.specs.StoreKinds.{add-told}
use Rattle.laws.specs.DifferingLaws.{first_alike}
use Rattle.session.specs.Runs.{Accepted, packed, Printer, PrinterCall, message, left, printer_call, after_received, messages_in}
use Rattle.session.specs.Statement.{Among, All, none, more, AcceptedAt, Rising, Sent, Session, accepted_in, Holds, printer_after}
use Rattle.session.specs.Lists.{either, all-front, all-at}
use Rattle.session.specs.HeldTicks.{same-pos}
use Rattle.session.specs.Sending.{Goes, as_part, as_single, as_empty, message-goes}
use Rattle.session.specs.PrinterState.{numbered, one-accepted}
use Rattle.session.specs.PrinterRuns.{messages-append}

-- how often an outcome counts the warning
abbrev pub alarms : {A : Type 0} → Outcome A → ℕ
alarms (ok a w) = w.differing_attributes
alarms (err n w) = w.differing_attributes

-- counts of all kinds but this one
abbrev others : Counts → Counts
others w = set DifferingAttributes 0 w

-- sums of such counts are such
quiet : Closed others
quiet = record { nothing = refl; both = λ v w e f. ap₂ plus e f }

-- an outcome that does not count it, and its value has a property
abbrev Quiet : {A : Type 0} → (A → Type 0) → Outcome A → Type 0
Quiet P o = Told others P o

-- so it counts it 0 times
quiet_none : {A : Type 0} {P : A → Type 0} {o : Outcome A} → Quiet P o → alarms o ≡ 0
quiet_none (value p e) = ap (λ (w : Counts). w.differing_attributes) e
quiet_none (refusal e) = ap (λ (w : Counts). w.differing_attributes) e

-- ---- the steps after the receiver

-- what follows on a step of the receiver does not count the warning, and keeps its receiver
abbrev Handles : Receives → Handled → Type 0
Handles x h = Quiet Any h.answer × (h.manager.receiver ≡ x.receiver)

module _ (sizes : List ℤ) (n : ℕ) (x : Receives) (s : Storage) (delta : List ℤ) where
  -- a delta was read, or refused
  reading : (w : Counts) → w ≡ others w → (y : ReceivedDelta) {o : Outcome Delta} → Quiet Any o → Handles x (after_reading n w x y s delta o)
  unfolding after_reading
  reading w e y (value {a = d} {w = v} p f) =
      (later quiet (plus w v) (quiet.both w v e f) (then quiet _ (wider (λ u. refl) (add-told n (sum_of y.data_and_crc) y.delta_tick y.tick d s)) (λ t _. returns quiet _ tt)), refl)
  reading w e y (refusal {w = v} f) = (refusal (quiet.both w v e f), refl)

  -- a message was received, or refused
  receiving : {o : Outcome (Option ReceivedDelta)} → Quiet Any o → Handles x (after_receiving sizes n x s delta o)
  unfolding after_receiving
  receiving (value {a = some y} {w = w} p e) =
      reading w e y (wider (λ u. refl) (fitting-told sizes x.joined (length delta) y.data_and_crc))
  receiving (value {a = Option.none} p e) = (value tt e, refl)
  receiving (refusal e) = (refusal e, refl)

-- a search that finds something, or is refused, counts no warning
found-quiet : {A : Type 0} (o : Option A) → Quiet Any (or_not_in_form o)
found-quiet (some a) = returns quiet a tt
found-quiet Option.none = refusal refl

-- a manager that is judged has the receiver that was given
judged-quiet : (r : Receiver) (s : Store) (area : List ℤ) (parts joined scratch : ℕ) → Quiet (λ (g : Manager). g.receiver ≡ r) (judge_manager r s area parts joined scratch)
unfolding judge_manager held_storage
judged-quiet r s area parts joined scratch =
    given quiet (receiver_form r) not_in_form (λ _.
    then quiet _ (found-quiet (storage_of s area)) (λ h _.
    given quiet (leb 28800 scratch && (leb 28800 parts && leb 28800 joined)) scratch_too_short (λ _. returns quiet _ refl)))

module _ (sizes : List ℤ) (instead : ℤ → Bool) (es : List Accepted) (At : ℤ → Table → Type 0) (up : Rising es) where
  -- ---- what was said

  -- the numbers of a table's part
  abbrev part_numbers : Accepted → ℕ → Part
  part_numbers a p =
      record {
        tick = a.tick;
        distance = distance a.tick a.base;
        num_parts = pos (num_parts (packed sizes a));
        part = pos p;
        crc = crc a.table;
      }

  -- what each part of a table says, if it comes first
  abbrev table_says : Accepted → Current
  table_says a = first_says (part_numbers a 0)

  -- no tick is unfinished, or its first part was one of an accepted table
  data Said : Option Current → Type 0 where
    nothing : Said Option.none
    table : {a : Accepted} → Among a es → Said (some (table_says a))

  -- accepted tables of one tick are one
  one-tick : {a c : Accepted} → Among a es → Among c es → same c.tick a.tick ≡ true → c ≡ a
  one-tick {a} {c} m k e =
      let i = numbered up m in
      let j = numbered up k in
      let q : eqb j.number i.number ≡ true = sym (same-pos j.number i.number) ∙ (rw (i.tick_is, j.tick_is) at e) in
      one-accepted up k m (j.tick_is ∙ (ap pos (eqb-true j.number i.number q) ∙ sym i.tick_is))

  -- a part of an accepted table finds what it says itself
  opened-says : {o : Option Current} (lengths : List ℕ) {a : Accepted} (p : ℕ) → Among a es → Said o → (opened_for o lengths (part_numbers a p)).current ≡ table_says a
  opened-says lengths p m nothing = refl
  opened-says lengths {a} p m (table {a = c} k) =
      either (same c.tick a.tick)
      (λ e. rw e (ap table_says (one-tick m k e)))
      (λ e. rw e refl)

  -- ---- the receiver's step

  -- a message leaves what was said by an accepted table
  abbrev Leads : Taken → Type 0
  Leads t = Said t.receiver.current

  -- a part that is put in does
  put-leads : (previous : Option ℤ) (o : Opened) (area second : List ℕ) {a : Accepted} → Among a es → o.current ≡ table_says a → Leads (put_part previous o area second)
  unfolding put_part
  put-leads previous o area second m e =
      either (eqb (count_in o.parts 32) o.current.num_parts)
      (λ q. rw q nothing)
      (λ q. rw q (subst (λ (c : Current). Said (some c)) (sym e) (table m)))

  -- a step that does not count the warning, and leaves the same
  abbrev Calm : Receives → Type 0
  Calm x = Quiet Any x.answer × Said x.receiver.current

  module _ (r : Receiver) (said : Said r.current) (area second : List ℕ) where
    -- a part of an accepted table
    part-quiet : {a : Accepted} (p : ℕ) (bytes : List ℕ) → Among a es → Quiet Leads (take_snap r (part_numbers a p) bytes area second)
    unfolding take_snap opened
    part-quiet {a} p bytes k =
        let m : Part = part_numbers a p in
        let c : (opened r m).current ≡ table_says a = opened-says r.parts p k said in
        given quiet (receiver_form r) not_in_form
        (λ _. given quiet (leb 28800 (length area) && leb 28800 (length second)) scratch_too_short
        (λ _. given quiet (leb (length bytes) 900) part_too_long
        (λ _. given quiet (not (is_old r m.tick)) old_delta
        (λ _. given quiet (leb (num m.num_parts) 32) invalid_num_parts
        (λ _. given quiet (ltb (num m.part) (num m.num_parts)) invalid_part
        (λ _. spared quiet (differs (opened r m).current m) DifferingAttributes (ap (λ (x : Current). differs x m) c ∙ first_alike m)
        (given quiet (not (is_in (opened r m).parts (num m.part))) duplicate_part
        (λ _. returns quiet _ (put-leads r.previous_tick (with_part (opened r m) (num m.part) (length bytes)) (lay_at (900 * num m.part) bytes area) second k c)))))))))

    -- a single message
    single-quiet : (tick : ℤ) (d : Distance) (s : ℤ) (bytes : List ℕ) → Quiet Leads (take_single r tick d s bytes area second)
    unfolding take_single
    single-quiet tick d s bytes =
        given quiet (receiver_form r) not_in_form
        (λ _. given quiet (leb 28800 (length second)) scratch_too_short
        (λ _. given quiet (leb (length bytes) 900) part_too_long
        (λ _. given quiet (not (is_old r tick)) old_delta (λ _. warns quiet (is_current r tick) DuplicateSnap refl (returns quiet _ nothing)))))

    -- an empty message
    empty-quiet : (tick : ℤ) (d : Distance) → Quiet Leads (take_empty r tick d area second)
    unfolding take_empty
    empty-quiet tick d =
        given quiet (receiver_form r) not_in_form
        (λ _. given quiet (not (is_old r tick)) old_delta (λ _. warns quiet (is_current r tick) DuplicateSnap refl (returns quiet _ nothing)))

    -- a message leaves the receiver as it was, or as it was taken
    leaves-calm : {o : Outcome Taken} → Quiet Leads o → Calm (leaves r area second o)
    unfolding leaves
    leaves-calm (value s e) = (value tt e, s)
    leaves-calm (refusal e) = (refusal e, said)

    -- a message of an accepted table
    goes-calm : {a : Accepted} {x : Message} → Among a es → Goes sizes instead At a x → Calm (receive r x.numbers x.bytes area second)
    goes-calm {a} m (as_part p large below carried) = leaves-calm (part-quiet p (part_bytes (packed sizes a) p) m)
    goes-calm {a} m (as_single small short carried) = leaves-calm (single-quiet a.tick (distance a.tick a.base) (crc a.table) (packed sizes a))
    goes-calm {a} m (as_empty small e) = leaves-calm (empty-quiet a.tick (distance a.tick a.base))

    -- a message that was sent
    sent-calm : {x : Message} → Sent sizes instead At es x → Calm (receive r x.numbers x.bytes area second)
    sent-calm {x} s =
        goes-calm s.accepted (message-goes sizes instead At s.table x s.equal s.carried s.goes)

  -- ---- the calls

  -- a call that does not count the warning, and leaves the same
  abbrev CalmCall : ManagerStep → Type 0
  CalmCall x = Quiet Any x.answer × Said x.receiver.current

  module _ (p : Printer) (said : Said p.receiver.current) {m : Message} (s : Sent sizes instead At es m) where
    -- the manager's steps, if it was judged
    managed-calm : {o : Outcome Manager} → Quiet (λ (g : Manager). g.receiver ≡ p.receiver) o
        → CalmCall (managed sizes p.receiver p.store m p.parts p.joined p.delta p.area o)
    unfolding managed handle
    managed-calm (value {a = g} e f) =
        let c = sent-calm g.receiver (subst (λ (r : Receiver). Said r.current) (sym e) said) p.parts p.joined s in
        let h = receiving sizes (length p.area) (receive g.receiver m.numbers m.bytes p.parts p.joined) g.storage p.delta c.0 in
        (h.0, subst (λ (r : Receiver). Said r.current) (sym h.1) c.1)
    managed-calm (refusal f) = (refusal f, said)

    -- the whole call
    call-calm : (n : ℕ) → CalmCall (printer_call sizes p m n)
    call-calm n = managed-calm (judged-quiet p.receiver p.store p.area (length p.parts) (length p.joined) n)

  -- some calls leave the same
  said-after : (cs : List PrinterCall) (p : Printer) → All (Sent sizes instead At es) (messages_in cs) → Said p.receiver.current
      → Said (after_received sizes p cs).receiver.current
  unfolding after_received messages_in
  said-after [] p none i = i
  said-after (message m n ∷ cs) p (more s ss) i = said-after cs (left (printer_call sizes p m n)) ss (call-calm p i s n).1

-- ---- the session

module _ (s : Session) (h : Holds s) (xs ys : List PrinterCall) (m : Message) (n : ℕ) (e : s.received ≡ xs ++ message m n ∷ ys) where
  -- all messages of the session were sent
  all-sent : All (Sent s.sizes s.instead (AcceptedAt (accepted_in s)) (accepted_in s)) (messages_in xs ++ m ∷ messages_in ys)
  unfolding messages_in
  all-sent =
      subst (All (Sent s.sizes s.instead (AcceptedAt (accepted_in s)) (accepted_in s))) (ap messages_in e ∙ messages-append xs (message m n ∷ ys)) h.sent

  -- the message itself was sent
  this-sent : Sent s.sizes s.instead (AcceptedAt (accepted_in s)) (accepted_in s) m
  this-sent = all-at (messages_in xs) (messages_in ys) m all-sent

  -- before it the receiver waits for no tick, or for parts of an accepted table
  said-before : Said s.sizes s.instead (accepted_in s) (AcceptedAt (accepted_in s)) h.rising (printer_after s xs).receiver.current
  said-before =
      said-after s.sizes s.instead (accepted_in s) (AcceptedAt (accepted_in s)) h.rising xs s.printer
      (all-front (messages_in xs) (m ∷ messages_in ys) all-sent) (rw h.printer_fresh nothing)

-- the receiver's step on a message of a session does not count the warning, whatever came before and however long the areas are
pub no-alarm : (s : Session) → Holds s → (xs ys : List PrinterCall) (m : Message) (n : ℕ) → s.received ≡ xs ++ message m n ∷ ys
    → alarms (receive (printer_after s xs).receiver m.numbers m.bytes (printer_after s xs).parts (printer_after s xs).joined).answer ≡ 0
no-alarm s h xs ys m n e =
    let p = printer_after s xs in
    quiet_none
    (sent-calm s.sizes s.instead (accepted_in s) (AcceptedAt (accepted_in s)) h.rising p.receiver (said-before s h xs ys m n e) p.parts p.joined
    (this-sent s h xs ys m n e)).0

-- the whole call on it does not count the warning either
pub no-alarm-call : (s : Session) → Holds s → (xs ys : List PrinterCall) (m : Message) (n : ℕ) → s.received ≡ xs ++ message m n ∷ ys
    → alarms (printer_call s.sizes (printer_after s xs) m n).answer ≡ 0
no-alarm-call s h xs ys m n e =
    quiet_none
    (call-calm s.sizes s.instead (accepted_in s) (AcceptedAt (accepted_in s)) h.rising (printer_after s xs) (said-before s h xs ys m n e)
    (this-sent s h xs ys m n e) n).0
