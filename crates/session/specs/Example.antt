-- A session of three ticks, whose premises are met: parts swapped, one lost, one doubled and one late. Assumes nothing.
use Rattle.std.specs.Prelude.{◌≡◌, refl, true, false, List, [], ◌∷◌, map, ℕ, zero, suc, ◌<◌, ℤ, pos, negsuc, length, replicate}
use Rattle.std.proofs.Common.{sym, subst, arith}
use Rattle.std.proofs.Math.Option.{some}
use Rattle.definitions.specs.Refusals.{old_delta, duplicate_part}
use Rattle.definitions.specs.Tables.{Table, list, body, offsets, written, num, nat, edge, start, key_at, values_at, all, items, ends, lowest, fits, in_form, table_of, find, insert, negatives, positives, all_values}
use Rattle.definitions.specs.Messages.{Message, delta_chunks}
use Rattle.definitions.specs.Types.{Ordinal, judge_types, typed, judge_type_id}
use Rattle.definitions.specs.Logbook.{refused, not_yet, acknowledges}
use Rattle.definitions.specs.Applying.{kept, updated_item, replace, change_item, new_item, apply_updates, apply_delta}
use Rattle.definitions.specs.DeltaCalls.{sizes_match}
use Rattle.definitions.specs.DeltaMaking.{lacking, changes, alike, delta_from, create_delta}
use Rattle.definitions.specs.DeltaReading.{next_ints, header_number, update_size, read_head, read_update, read_updates, put, ordered, read_delta_header, read_delta}
use Rattle.definitions.specs.Deltas.{rank, known_size, update_ints, updates_ints, delta_ints, deleted_at, update_key, data_at, size_at, update_end, updates}
use Rattle.definitions.specs.Ints.{bits, from_bits, wrapping_add, wrapping_sub}
use Rattle.definitions.specs.Manager.{fitting_delta, after_reading, after_receiving, handle, judge_manager, managed}
use Rattle.definitions.specs.Packed.{signed, more, read_int, write_more, write_int, pack_ints}
use Rattle.definitions.specs.Receiver.{count_in, joined, receiver_form, is_old, opened, differs, put_part, take_snap, leaves}
use Rattle.definitions.specs.Storage.{store_ints, all_zero, snaps_of, storage_of, drop_older, oldest_or, oldest_at, add_table, add_on, add_delta, adding}
use Rattle.definitions.specs.Storage as Storage
use Rattle.definitions.specs.StorageCalls.{held_storage, after_judging, judge_table, add_snap_step, add_step}
use Rattle.definitions.specs.Stream.{stream}
use Rattle.definitions.specs.TableCalls.{held}
use Rattle.definitions.specs.TableReading.{add_item}
use Rattle.laws.specs.PackLaws.{Whole, nil, cons}
use Rattle.laws.specs.BuilderForm.{of_number, Built}
use Rattle.laws.specs.BuilderForm as Builder
use Rattle.session.specs.Runs.{ControllerCall, add_snap, set_delta_tick, Controller, fresh_controller, Accepted, controller_call, accepted_from, packed, messages_of, Printer, fresh_printer, PrinterCall, message, after_received, messages_in, answers}
use Rattle.session.specs.Statement.{Among, here, there, All, Rising, AcceptedAt, Carried, Sent, Session, Holds, AreasSuffice, Demand3}
use Rattle.session.specs.Statement as Statement
use Rattle.session.specs.Lists.{contra}
use Rattle.session.specs.Sending.{part_of_table}
use Rattle.session.specs.Sufficing.{received_fine, calls_fine, received-suffices, calls-suffice}
use Rattle.session.specs.Demand.{demand3}

-- ---- the session

-- an item of 1,000 ints, all of one value: its delta takes 1,007 bytes, so two parts
unfoldable pub table : ℕ → Table
table v = record { key = 65536; values = replicate 1000 (pos v) } ∷ []

-- tables at ticks 0, 1 and 2; the later two are measured against the first
unfoldable pub calls : List ControllerCall
calls =
    add_snap (pos 0) (written (table 7)) ∷ set_delta_tick (pos 0) ∷ add_snap (pos 1) (written (table 8)) ∷ add_snap (pos 2) (written (table 9)) ∷ []

-- the controller's areas have room for three such tables and a delta
unfoldable pub controller : Controller
controller = fresh_controller 3100 (replicate 1100 (pos 0))

-- the printer's areas
unfoldable pub printer : Printer
printer = fresh_printer 3100 (replicate 28800 0) (replicate 28800 0) (replicate 1100 (pos 0))

-- an accepted table: its tick, its base's tick and table, and the table
abbrev pub entry : ℕ → ℤ → Table → Table → Accepted
entry n b from to = record { tick = pos n; base = b; table = to; delta = delta_from from to }

-- the table of tick 0
unfoldable pub first : Accepted
first = entry 0 (negsuc 0) [] (table 7)

-- that of tick 1
unfoldable pub second : Accepted
second = entry 1 (pos 0) (table 7) (table 8)

-- that of tick 2
unfoldable pub third : Accepted
third = entry 2 (pos 0) (table 7) (table 9)

-- part p of a table
abbrev pub part : Accepted → ℕ → Message
part a p = part_of_table [] (λ t. false) a p

-- the parts of tick 0 come in reverse order; of tick 1, part 0 is lost; part 1 of tick 2 comes twice, and that of tick 1 again, late
unfoldable pub messages : List Message
messages =
    part first 1 ∷ part first 0 ∷ part second 1 ∷ part third 1 ∷ part third 1 ∷ part second 1 ∷ part third 0 ∷ []

-- scratch is as long as it must be
unfoldable pub received : List PrinterCall
received = map (λ m. message m 28800) messages

-- ---- what the definitions give

-- the tables accepted, what goes out for them, and how all calls are answered
record Computed : Type 0 where
  log : accepted_from controller calls [] ≡ third ∷ second ∷ first ∷ []
  out_first : messages_of [] (λ t. false) first ≡ part first 0 ∷ part first 1 ∷ []
  out-second : messages_of [] (λ t. false) second ≡ part second 0 ∷ part second 1 ∷ []
  out-third : messages_of [] (λ t. false) third ≡ part third 0 ∷ part third 1 ∷ []
  calls-fine : calls_fine controller calls ≡ true
  messages-are : messages_in received ≡ messages
  received-fine : received_fine [] printer received ≡ true
  matches : (sizes_match [] first.delta.updated ≡ true) × (sizes_match [] second.delta.updated ≡ true) × (sizes_match [] third.delta.updated ≡ true)
  short : (length (packed [] first) ≡ 1007) × (length (packed [] second) ≡ 1007) × (length (packed [] third) ≡ 1007)
  told : answers [] printer received ≡ not_yet ∷ acknowledges (pos 0) ∷ not_yet ∷ not_yet ∷ refused duplicate_part ∷ refused old_delta ∷ acknowledges (pos 2) ∷ []
  acknowledged : (after_received [] printer received).store.ack_tick ≡ some (pos 2)
  held : snaps_of 2 (after_received [] printer received).area ≡ some (record { tick = pos 2; snap = table 9 } ∷ record { tick = pos 0; snap = table 7 } ∷ [])

-- they are run
computed : Computed
unfolding accepted_from controller_call messages_of after_received messages_in answers calls_fine received_fine table calls controller printer first second third messages received kept updated_item replace change_item new_item apply_updates apply_delta sizes_match lacking changes alike delta_from create_delta next_ints header_number update_size read_head read_update read_updates put ordered read_delta_header read_delta rank known_size update_ints updates_ints delta_ints deleted_at update_key data_at size_at update_end updates bits from_bits wrapping_add wrapping_sub fitting_delta after_reading after_receiving handle judge_manager managed delta_chunks signed more read_int write_more write_int pack_ints count_in joined receiver_form is_old opened differs put_part take_snap leaves store_ints all_zero snaps_of storage_of drop_older oldest_or oldest_at add_table add_on add_delta adding Storage.add_snap Storage.set_delta_tick held_storage after_judging judge_table add_snap_step add_step stream held list body offsets written num nat edge start key_at values_at all items ends lowest fits in_form table_of find insert negatives positives all_values judge_types typed
computed =
    record {
      log = refl;
      out_first = refl;
      out-second = refl;
      out-third = refl;
      calls-fine = refl;
      messages-are = refl;
      received-fine = refl;
      matches = (refl, refl, refl);
      short = (refl, refl, refl);
      told = refl;
      acknowledged = refl;
      held = refl;
    }

-- ---- the premises

-- ints from 0 to 63 fit 32 bits
pub whole-values : (n v : ℕ) → v < 64 → Whole (replicate n (pos v))
whole-values zero v h = nil
whole-values (suc n) v h = cons {x = pos v} (record { sfits = omega arith }) (whole-values n v h)

-- the builder builds such a table
built : (v : ℕ) → v < 64 → Built (table v)
unfolding table add_item find written insert offsets body judge_type_id
built v h =
    Builder.more {type = Ordinal 1} {id = 0} Builder.nothing
    (record { type-given = tt; id_below = omega arith; whole = whole-values 1000 v h })
    refl
    (of_number {n = 1} {id = 0} {values = replicate 1000 (pos v)} refl)

-- the tables that were accepted, the newest first
abbrev log : List Accepted
log = third ∷ second ∷ first ∷ []

-- all are built
all-built : All (λ (a : Accepted). Built a.table) log
unfolding first second third
all-built =
    Statement.more (built 9 (omega arith)) (Statement.more (built 8 (omega arith)) (Statement.more (built 7 (omega arith)) Statement.none))

-- ticks rise
rises : Rising log
unfolding first second third
rises =
    Statement.more 2 refl (omega arith) (Statement.more refl (Statement.more refl Statement.none))
    (Statement.more 1 refl (omega arith) (Statement.more refl Statement.none)
    (Statement.more 0 refl (omega arith) Statement.none Statement.none))

-- a table's delta is short
carried : (a : Accepted) → sizes_match [] a.delta.updated ≡ true → length (packed [] a) ≡ 1007 → Carried [] a
carried a e q = record { matches = e; short = rw q (omega arith) }

-- a message of an accepted table
sends : (a : Accepted) (m : Message) (l : List Message) → Among a log → Carried [] a → messages_of [] (λ t. false) a ≡ l → Among m l → Sent [] (λ t. false) (AcceptedAt log) log m
sends a m l k c e i =
    record { table = a; accepted = k; goes = subst (Among m) (sym e) i; carried = λ z. c; equal = λ z. contra z refl }

-- all messages were sent
all-sent : All (Sent [] (λ t. false) (AcceptedAt log) log) messages
unfolding messages
all-sent =
    let x = carried first computed.matches.0 computed.short.0 in
    let y = carried second computed.matches.1 computed.short.1 in
    let z = carried third computed.matches.2 computed.short.2 in
    let a = sends first (part first 1) _ (there (there here)) x computed.out_first (there here) in
    let b = sends first (part first 0) _ (there (there here)) x computed.out_first here in
    let c = sends second (part second 1) _ (there here) y computed.out-second (there here) in
    let d = sends third (part third 1) _ here z computed.out-third (there here) in
    let e = sends third (part third 0) _ here z computed.out-third here in
    Statement.more a (Statement.more b (Statement.more c (Statement.more d (Statement.more d (Statement.more c (Statement.more e Statement.none))))))

-- the session
abbrev pub example : Session
example =
    record { sizes = []; controller = controller; calls = calls; printer = printer; received = received; instead = λ t. false }

-- the premises of docs/FORMAT.md hold for it
pub example-holds : Holds example
unfolding controller printer
example-holds =
    record {
      area = 3100;
      delta = replicate 1100 (pos 0);
      controller_fresh = refl;
      printer_area = 3100;
      parts = replicate 28800 0;
      joined = replicate 28800 0;
      printer_delta = replicate 1100 (pos 0);
      printer_fresh = refl;
      built = subst (All (λ (a : Accepted). Built a.table)) (sym computed.log) all-built;
      rising = subst Rising (sym computed.log) rises;
      sent =
          subst (λ (l : List Accepted). All (Sent [] (λ t. false) (AcceptedAt l) l) (messages_in received)) (sym computed.log)
          (subst (All (Sent [] (λ t. false) (AcceptedAt log) log)) (sym computed.messages-are) all-sent);
    }

-- and its areas suffice
pub example-suffices : AreasSuffice example
example-suffices =
    record {
      controller = calls-suffice controller calls computed.calls-fine;
      printer = received-suffices [] printer received computed.received-fine;
    }

-- so the claim does
pub example-demand : Demand3 example
example-demand = demand3 example example-holds example-suffices

-- the printer's answers: not yet, tick 0, not yet, not yet, again, late, tick 2
pub example-answers : answers [] printer received ≡ not_yet ∷ acknowledges (pos 0) ∷ not_yet ∷ not_yet ∷ refused duplicate_part ∷ refused old_delta ∷ acknowledges (pos 2) ∷ []
example-answers = computed.told

-- tick 2 is acknowledged last
pub example-acknowledged : (after_received [] printer received).store.ack_tick ≡ some (pos 2)
example-acknowledged = computed.acknowledged

-- and the tables of ticks 2 and 0 are held
pub example-held : snaps_of 2 (after_received [] printer received).area ≡ some (record { tick = pos 2; snap = table 9 } ∷ record { tick = pos 0; snap = table 7 } ∷ [])
example-held = computed.held
