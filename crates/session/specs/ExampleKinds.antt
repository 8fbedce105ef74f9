-- A session with every kind of message and a known size, a lost base, refused tables, and base ticks that are negative or not held. Assumes nothing.
use Rattle.std.specs.Prelude.{◌≡◌, refl, Bool, true, false, List, [], ◌∷◌, ℕ, ◌<◌, ◌≤◌, eqb, ℤ, pos, negsuc, length, replicate}
use Rattle.std.proofs.Common.{sym, subst, arith}
use Rattle.std.proofs.Math.Option.{Option, some, none}
use Rattle.definitions.specs.Refusals.{delta_differing_sizes, old_delta, unknown_snap, not_in_form}
use Rattle.definitions.specs.Warnings.{one, WeirdNegativeDeltaTick}
use Rattle.definitions.specs.Outcome.{Outcome, ok, return, refuse}
use Rattle.definitions.specs.Tables.{Item, Table, list, body, offsets, written, num, nat, edge, start, key_at, values_at, all, items, ends, lowest, fits, in_form, table_of, find, insert, negatives, positives, all_values}
use Rattle.definitions.specs.Messages.{Message, delta_chunks}
use Rattle.definitions.specs.Types.{Ordinal, judge_types, typed, judge_type_id}
use Rattle.definitions.specs.Logbook.{Answer, refused, not_yet, acknowledges}
use Rattle.definitions.specs.Applying.{kept, updated_item, replace, change_item, new_item, apply_updates, apply_delta}
use Rattle.definitions.specs.DeltaCalls.{sizes_match}
use Rattle.definitions.specs.DeltaMaking.{lacking, changes, alike, delta_from, create_delta}
use Rattle.definitions.specs.DeltaReading.{next_ints, header_number, update_size, read_head, read_update, read_updates, put, ordered, read_delta_header, read_delta}
use Rattle.definitions.specs.Deltas.{rank, known_size, update_ints, updates_ints, delta_ints, deleted_at, update_key, data_at, size_at, update_end, updates}
use Rattle.definitions.specs.Ints.{bits, from_bits, wrapping_add, wrapping_sub, signed_less}
use Rattle.definitions.specs.Manager.{fitting_delta, after_reading, after_receiving, handle, judge_manager, managed}
use Rattle.definitions.specs.Packed.{signed, more, read_int, write_more, write_int, pack_ints}
use Rattle.definitions.specs.Receiver.{count_in, joined, receiver_form, is_old, is_current, opened, differs, put_part, take_snap, take_single, take_empty, leaves}
use Rattle.definitions.specs.Storage.{StoredSnap, store_ints, all_zero, snaps_of, storage_of, drop_older, oldest_or, oldest_at, add_table, add_on, add_delta, adding}
use Rattle.definitions.specs.Storage as Storage
use Rattle.definitions.specs.StorageCalls.{Added, held_storage, after_judging, judge_table, add_snap_step, add_step}
use Rattle.definitions.specs.Stream.{stream}
use Rattle.definitions.specs.TableCalls.{held}
use Rattle.definitions.specs.TableReading.{add_item}
use Rattle.laws.specs.BuilderForm.{of_number, Built}
use Rattle.laws.specs.BuilderForm as Builder
use Rattle.session.specs.Runs.{ControllerCall, add_snap, set_delta_tick, Controller, fresh_controller, Accepted, controller_call, accepted_from, packed, empty_message, messages_of, Printer, fresh_printer, PrinterCall, message, after_received, messages_in, answers}
use Rattle.session.specs.Statement.{Among, here, there, All, Rising, AcceptedAt, Sent, Session, Holds, AreasSuffice, Demand3}
use Rattle.session.specs.Statement as Statement
use Rattle.session.specs.Lists.{contra}
use Rattle.session.specs.Sufficing.{received_fine, calls_fine, received-suffices, calls-suffice}
use Rattle.session.specs.Sending.{part_of_table, single_of_table}
use Rattle.session.specs.Demand.{demand3}
use Rattle.session.specs.Example.{entry, whole-values}

-- ---- the session

-- items of type 1 have two ints, and of no other type the size is known
abbrev pub sizes : List ℤ
sizes = negsuc 0 ∷ pos 2 ∷ []

-- an item of type 1
abbrev pub pair : ℕ → Item
pair v = record { key = 65536; values = replicate 2 (pos v) }

-- a table of that item: its delta goes in a single message
unfoldable pub small : ℕ → Table
small v = pair v ∷ []

-- beside an item of type 2 with 1,000 ints: its delta takes two parts
unfoldable pub large : ℕ → Table
large v = pair v ∷ record { key = 131072; values = replicate 1000 (pos v) } ∷ []

-- the item of type 1 with three ints, which clashes with the others
unfoldable pub clashing : Table
clashing = record { key = 65536; values = replicate 3 (pos 0) } ∷ []

-- the base is set, taken back, set and lost; one table clashes, and one area holds none
unfoldable pub calls : List ControllerCall
calls =
    add_snap (pos 0) (written (small 1)) ∷ set_delta_tick (pos 0) ∷ set_delta_tick (negsuc 0) ∷ add_snap (pos 1) (written (small 2)) ∷ set_delta_tick (pos 1)
    ∷ add_snap (pos 2) (written clashing) ∷ add_snap (pos 2) [] ∷ add_snap (pos 2) (written (large 3))
    ∷ set_delta_tick (negsuc 1) ∷ add_snap (pos 3) (written (large 3)) ∷ set_delta_tick (pos 3) ∷ add_snap (pos 4) (written (large 3))
    ∷ set_delta_tick (pos 9) ∷ add_snap (pos 5) (written []) ∷ []

-- the controller's areas have room for four large tables and a delta
unfoldable pub controller : Controller
controller = fresh_controller 4200 (replicate 1100 (pos 0))

-- the printer's areas
unfoldable pub printer : Printer
printer = fresh_printer 4200 (replicate 28800 0) (replicate 28800 0) (replicate 1100 (pos 0))

-- at tick 0, from nothing
unfoldable pub zeroth : Accepted
zeroth = entry 0 (negsuc 0) [] (small 1)

-- at tick 1, from nothing too, since the base was taken back
unfoldable pub first : Accepted
first = entry 1 (negsuc 0) [] (small 2)

-- at tick 2, measured against tick 1
unfoldable pub second : Accepted
second = entry 2 (pos 1) (small 2) (large 3)

-- at tick 3, from nothing, since a negative base tick was set
unfoldable pub third : Accepted
third = entry 3 (negsuc 0) [] (large 3)

-- at tick 4, equal to its base
unfoldable pub fourth : Accepted
fourth = entry 4 (pos 3) (large 3) (large 3)

-- at tick 5, the empty table from nothing, since tick 9 is not held: its delta is empty
unfoldable pub fifth : Accepted
fifth = entry 5 (negsuc 0) [] []

-- for tick 4 an empty message goes instead
abbrev pub instead : ℤ → Bool
instead (pos n) = eqb n 4
instead (negsuc n) = false

-- part p of a table
abbrev pub part : Accepted → ℕ → Message
part a p = part_of_table sizes instead a p

-- the single message of a table
abbrev pub single : Accepted → Message
single a = single_of_table sizes instead a

-- the single message of tick 1 comes too late, so the base of tick 2 is missing; that of tick 5 comes after the empty one; scratch differs from call to call
unfoldable pub received : List PrinterCall
received =
    message (single zeroth) 28800 ∷ message (part second 1) 28801 ∷ message (part second 0) 30000 ∷ message (part third 0) 28800 ∷ message (single first) 28800
    ∷ message (part third 1) 29000 ∷ message (empty_message fourth) 28800 ∷ message (empty_message fifth) 28800 ∷ message (single fifth) 28800 ∷ []

-- the messages that come
abbrev pub messages : List Message
messages =
    single zeroth ∷ part second 1 ∷ part second 0 ∷ part third 0 ∷ single first ∷ part third 1 ∷ empty_message fourth ∷ empty_message fifth
    ∷ single fifth ∷ []

-- ---- what the definitions give

-- how the controller's calls are answered
unfoldable pub call_answers : Controller → List ControllerCall → List (Outcome (Option Added))
call_answers c [] = []
call_answers c (x ∷ xs) = (controller_call c x).answer ∷ call_answers (controller_call c x).next xs

-- a table was added on a base, and its delta takes so many ints
abbrev pub added_on : ℤ → ℕ → Outcome (Option Added)
added_on b n = return (some (record { base = b; ints = n }))

-- the second and the third table name base -1, and so does the last; two are refused, and so is base tick 9
abbrev pub calls_answered : List (Outcome (Option Added))
calls_answered =
    added_on (negsuc 0) 8 ∷ return none ∷ return none ∷ added_on (negsuc 0) 8 ∷ return none ∷ refuse delta_differing_sizes ∷ refuse not_in_form
    ∷ added_on (pos 1) 1011 ∷ ok none (one WeirdNegativeDeltaTick) ∷ added_on (negsuc 0) 1011 ∷ return none ∷ added_on (pos 3) 1011
    ∷ refuse unknown_snap ∷ added_on (negsuc 0) 3 ∷ []

-- the printer's answers: tick 0, not yet, its base is lost, not yet, late, ticks 3, 4 and 5, late
abbrev pub messages_answered : List Answer
messages_answered =
    acknowledges (pos 0) ∷ not_yet ∷ refused unknown_snap ∷ not_yet ∷ refused old_delta ∷ acknowledges (pos 3) ∷ acknowledges (pos 4)
    ∷ acknowledges (pos 5) ∷ refused old_delta ∷ []

-- the tables held in the end
unfoldable pub held_at_last : List StoredSnap
held_at_last =
    record { tick = pos 5; snap = [] } ∷ record { tick = pos 4; snap = large 3 } ∷ record { tick = pos 3; snap = large 3 } ∷ []

-- the known sizes are those of a table's delta
abbrev Matches : Accepted → Type 0
Matches a = sizes_match sizes a.delta.updated ≡ true

-- a table's delta takes so many bytes
abbrev Takes : Accepted → ℕ → Type 0
Takes a n = length (packed sizes a) ≡ n

-- the tables accepted, what goes out for them, and how all calls are answered
record Computed : Type 0 where
  log : accepted_from controller calls [] ≡ fifth ∷ fourth ∷ third ∷ second ∷ first ∷ zeroth ∷ []
  answered : call_answers controller calls ≡ calls_answered
  out-zeroth : messages_of sizes instead zeroth ≡ single zeroth ∷ []
  out_first : messages_of sizes instead first ≡ single first ∷ []
  out-second : messages_of sizes instead second ≡ part second 0 ∷ part second 1 ∷ []
  out-third : messages_of sizes instead third ≡ part third 0 ∷ part third 1 ∷ []
  out-fourth : messages_of sizes instead fourth ≡ empty_message fourth ∷ []
  out-fifth : messages_of sizes instead fifth ≡ single fifth ∷ empty_message fifth ∷ []
  calls-fine : calls_fine controller calls ≡ true
  messages-are : messages_in received ≡ messages
  received-fine : received_fine sizes printer received ≡ true
  matches : Matches zeroth × Matches first × Matches second × Matches third × Matches fifth
  short : Takes zeroth 7 × Takes first 7 × Takes second 1011 × Takes third 1011 × Takes fifth 3
  told : answers sizes printer received ≡ messages_answered
  acknowledged : (after_received sizes printer received).store.ack_tick ≡ some (pos 5)
  held : snaps_of 3 (after_received sizes printer received).area ≡ some held_at_last

-- they are run
computed : Computed
unfolding accepted_from controller_call messages_of after_received messages_in answers calls_fine received_fine call_answers small large clashing calls controller printer zeroth first second third fourth fifth received held_at_last kept updated_item replace change_item new_item apply_updates apply_delta sizes_match lacking changes alike delta_from create_delta next_ints header_number update_size read_head read_update read_updates put ordered read_delta_header read_delta rank known_size update_ints updates_ints delta_ints deleted_at update_key data_at size_at update_end updates bits from_bits wrapping_add wrapping_sub fitting_delta after_reading after_receiving handle judge_manager managed delta_chunks signed more read_int write_more write_int pack_ints count_in joined receiver_form is_old is_current opened differs put_part take_snap take_single take_empty leaves store_ints all_zero snaps_of storage_of drop_older oldest_or oldest_at add_table add_on add_delta adding Storage.add_snap Storage.set_delta_tick held_storage after_judging judge_table add_snap_step add_step stream held list body offsets written num nat edge start key_at values_at all items ends lowest fits in_form table_of find insert negatives positives all_values judge_types typed
computed =
    record {
      log = refl;
      answered = refl;
      out-zeroth = refl;
      out_first = refl;
      out-second = refl;
      out-third = refl;
      out-fourth = refl;
      out-fifth = refl;
      calls-fine = refl;
      messages-are = refl;
      received-fine = refl;
      matches = (refl, refl, refl, refl, refl);
      short = (refl, refl, refl, refl, refl);
      told = refl;
      acknowledged = refl;
      held = refl;
    }

-- ---- the premises

-- the tables that were accepted, the newest first
abbrev log : List Accepted
log = fifth ∷ fourth ∷ third ∷ second ∷ first ∷ zeroth ∷ []

-- the builder builds a small table
small-built : (v : ℕ) → v < 64 → Built (small v)
unfolding small add_item find written insert offsets body judge_type_id
small-built v h =
    Builder.more {type = Ordinal 1} {id = 0} Builder.nothing
    (record { type-given = tt; id_below = omega arith; whole = whole-values 2 v h })
    refl
    (of_number {n = 1} {id = 0} {values = replicate 2 (pos v)} refl)

-- and a large one from it
large-built : (v : ℕ) → v < 64 → Built (large v)
unfolding small large add_item find written insert offsets body judge_type_id
large-built v h =
    Builder.more {type = Ordinal 2} {id = 0} (small-built v h)
    (record { type-given = tt; id_below = omega arith; whole = whole-values 1000 v h })
    refl
    (of_number {n = 2} {id = 0} {values = replicate 1000 (pos v)} refl)

-- all are built
all-built : All (λ (a : Accepted). Built a.table) log
unfolding zeroth first second third fourth fifth
all-built =
    Statement.more Builder.nothing
    (Statement.more (large-built 3 (omega arith))
    (Statement.more (large-built 3 (omega arith))
    (Statement.more (large-built 3 (omega arith))
    (Statement.more (small-built 2 (omega arith)) (Statement.more (small-built 1 (omega arith)) Statement.none)))))

-- a tick below another
abbrev Below : ℤ → Accepted → Type 0
Below t b = signed_less b.tick t ≡ true

-- ticks rise
rises : Rising log
unfolding zeroth first second third fourth fifth
rises =
    let r1 : All (Below (pos 1)) (zeroth ∷ []) = Statement.more refl Statement.none in
    let r2 : All (Below (pos 2)) (first ∷ zeroth ∷ []) = Statement.more refl (Statement.more refl Statement.none) in
    let r3 : All (Below (pos 3)) (second ∷ first ∷ zeroth ∷ []) = Statement.more refl (Statement.more refl (Statement.more refl Statement.none)) in
    let r4 : All (Below (pos 4)) (third ∷ second ∷ first ∷ zeroth ∷ []) = Statement.more refl
    (Statement.more refl (Statement.more refl (Statement.more refl Statement.none))) in
    let r5 : All (Below (pos 5)) (fourth ∷ third ∷ second ∷ first ∷ zeroth ∷ []) = Statement.more refl
    (Statement.more refl (Statement.more refl (Statement.more refl (Statement.more refl Statement.none)))) in
    Statement.more 5 refl (omega arith) r5
    (Statement.more 4 refl (omega arith) r4
    (Statement.more 3 refl (omega arith) r3
    (Statement.more 2 refl (omega arith) r2
    (Statement.more 1 refl (omega arith) r1 (Statement.more 0 refl (omega arith) Statement.none Statement.none)))))

-- a message that carries bytes
carrying : (a : Accepted) (m : Message) (l : List Message) (k : ℕ) → Among a log → instead a.tick ≡ false → sizes_match sizes a.delta.updated ≡ true
    → length (packed sizes a) ≡ k → k ≤ 28800 → messages_of sizes instead a ≡ l → Among m l → Sent sizes instead (AcceptedAt log) log m
carrying a m l k i f e q h o among =
    record {
      table = a;
      accepted = i;
      goes = subst (Among m) (sym o) among;
      carried = λ z. record { matches = e; short = rw q h };
      equal = λ z. contra z f;
    }

-- the empty message of tick 4 stands for a table equal to its base
fourth-sent : Sent sizes instead (AcceptedAt log) log (empty_message fourth)
unfolding third fourth
fourth-sent =
    record {
      table = fourth;
      accepted = there here;
      goes = subst (Among (empty_message fourth)) (sym computed.out-fourth) here;
      carried = λ z. contra z refl;
      equal = λ z. Statement.named (record { table = third; accepted = there (there here); tick_is = refl; table_is = refl });
    }

-- either part of tick 2 was sent
second-sent : (m : Message) → Among m (part second 0 ∷ part second 1 ∷ []) → Sent sizes instead (AcceptedAt log) log m
unfolding second
second-sent m i =
    carrying second m _ 1011 (there (there (there here))) refl computed.matches.2 computed.short.2 (omega arith) computed.out-second i

-- either part of tick 3 was
third-sent : (m : Message) → Among m (part third 0 ∷ part third 1 ∷ []) → Sent sizes instead (AcceptedAt log) log m
unfolding third
third-sent m i =
    carrying third m _ 1011 (there (there here)) refl computed.matches.3 computed.short.3 (omega arith) computed.out-third i

-- and both messages of tick 5
fifth-sent : (m : Message) → Among m (single fifth ∷ empty_message fifth ∷ []) → Sent sizes instead (AcceptedAt log) log m
unfolding fifth
fifth-sent m i =
    carrying fifth m _ 3 here refl computed.matches.4 computed.short.4 (omega arith) computed.out-fifth i

-- all messages were sent
all-sent : All (Sent sizes instead (AcceptedAt log) log) messages
unfolding zeroth first
all-sent =
    let z = carrying zeroth (single zeroth) _ 7 (there (there (there (there (there here))))) refl computed.matches.0 computed.short.0
    (omega arith) computed.out-zeroth here in
    let f = carrying first (single first) _ 7 (there (there (there (there here)))) refl computed.matches.1 computed.short.1 (omega arith)
    computed.out_first here in
    Statement.more z
    (Statement.more (second-sent (part second 1) (there here))
    (Statement.more (second-sent (part second 0) here)
    (Statement.more (third-sent (part third 0) here)
    (Statement.more f
    (Statement.more (third-sent (part third 1) (there here))
    (Statement.more fourth-sent
    (Statement.more (fifth-sent (empty_message fifth) (there here)) (Statement.more (fifth-sent (single fifth) here) Statement.none))))))))

-- the session
abbrev pub example : Session
example =
    record { sizes = sizes; controller = controller; calls = calls; printer = printer; received = received; instead = instead }

-- the premises of docs/FORMAT.md hold for it
pub example-holds : Holds example
unfolding controller printer
example-holds =
    record {
      area = 4200;
      delta = replicate 1100 (pos 0);
      controller_fresh = refl;
      printer_area = 4200;
      parts = replicate 28800 0;
      joined = replicate 28800 0;
      printer_delta = replicate 1100 (pos 0);
      printer_fresh = refl;
      built = subst (All (λ (a : Accepted). Built a.table)) (sym computed.log) all-built;
      rising = subst Rising (sym computed.log) rises;
      sent =
          subst (λ (l : List Accepted). All (Sent sizes instead (AcceptedAt l) l) (messages_in received)) (sym computed.log)
          (subst (All (Sent sizes instead (AcceptedAt log) log)) (sym computed.messages-are) all-sent);
    }

-- and its areas suffice
pub example-suffices : AreasSuffice example
example-suffices =
    record {
      controller = calls-suffice controller calls computed.calls-fine;
      printer = received-suffices sizes printer received computed.received-fine;
    }

-- so the claim does
pub example-demand : Demand3 example
example-demand = demand3 example example-holds example-suffices

-- the controller's answers
pub example-calls : call_answers controller calls ≡ calls_answered
example-calls = computed.answered

-- the printer's answers
pub example-answers : answers sizes printer received ≡ messages_answered
example-answers = computed.told

-- tick 5 is acknowledged last
pub example-acknowledged : (after_received sizes printer received).store.ack_tick ≡ some (pos 5)
example-acknowledged = computed.acknowledged

-- and the tables of ticks 5, 4 and 3 are held
pub example-held : snaps_of 3 (after_received sizes printer received).area ≡ some held_at_last
example-held = computed.held
