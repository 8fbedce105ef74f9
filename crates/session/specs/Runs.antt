-- The lists of calls of a controller and of a printer, their answers and what they leave. Assumes nothing.
use Rattle.std.specs.Prelude.{Bool, cond, List, [], ◌∷◌, ◌++◌, ℕ, ℤ, pos, replicate}
use Rattle.std.proofs.Math.Option.{Option, some, none}
use Rattle.definitions.specs.Outcome.{Outcome, ok, err, return, ◌>>=◌}
use Rattle.definitions.specs.Packed.{pack_ints}
use Rattle.definitions.specs.Tables.{Table, items, crc}
use Rattle.definitions.specs.Deltas.{Delta, is_empty_delta, delta_ints, delta_in}
use Rattle.definitions.specs.Messages.{SnapEmpty, Message, delta_chunks, distance}
use Rattle.definitions.specs.Receiver.{Receiver, fresh_receiver}
use Rattle.definitions.specs.Storage.{fresh_storage, Store, beside}
use Rattle.definitions.specs.StorageCalls.{Added, AddStep, StoreStep, add_snap_call, set_delta_tick_call}
use Rattle.definitions.specs.Manager.{ManagerStep, message_call}
use Rattle.definitions.specs.Logbook.{Answer, refused, not_yet, acknowledges, Logbook, note_message}

-- ---- the controller

-- a table, of a lent area, added at a tick; or a base tick set
pub data ControllerCall : Type 0 where
  add_snap : ℤ → List ℤ → ControllerCall
  set_delta_tick : ℤ → ControllerCall

-- the controller's store, its area, and the area that takes deltas
pub record Controller : Type 0 where
  pub store : Store
  pub area : List ℤ
  pub delta : List ℤ

-- an answer, with the base and the length of a delta that was made, and what is left
pub record ControllerStep : Type 0 where
  pub answer : Outcome (Option Added)
  pub next : Controller

abbrev pub added : AddStep → ControllerStep
added x =
    record {
      answer = x.answer >>= λ a. return (some a);
      next = record { store = x.store; area = x.area; delta = x.delta };
    }

abbrev pub base_set : List ℤ → StoreStep (Unit {0}) → ControllerStep
base_set delta x =
    record {
      answer = x.answer >>= λ u. return none;
      next = record { store = x.store; area = x.area; delta = delta };
    }

-- a call, as `add_snap` and `set_delta_tick` are defined
unfoldable pub controller_call : Controller → ControllerCall → ControllerStep
controller_call c (add_snap tick table) = added (add_snap_call c.store c.area tick table c.delta)
controller_call c (set_delta_tick tick) = base_set c.delta (set_delta_tick_call c.store c.area tick)

-- an empty store in an area of n ints, and a delta area
abbrev pub fresh_controller : ℕ → List ℤ → Controller
fresh_controller n delta = record { store = beside fresh_storage; area = replicate n (pos 0); delta = delta }

-- the controller after some calls
unfoldable pub after_calls : Controller → List ControllerCall → Controller
after_calls c [] = c
after_calls c (x ∷ xs) = after_calls (controller_call c x).next xs

-- a table that was accepted: its tick, the base that it was measured against, and its delta
pub record Accepted : Type 0 where
  pub tick : ℤ
  pub base : ℤ
  pub table : Table
  pub delta : Delta

-- the table of an area that was added at a tick, with the base that was answered and the delta that the delta area holds
abbrev pub accepted_as : ℤ → List ℤ → Added → List ℤ → Accepted
accepted_as tick table a delta =
    record { tick = tick; base = a.base; table = items table; delta = delta_in [] delta }

-- the table that a call added, if it did, before those accepted already
abbrev pub accepted_by : ControllerCall → ControllerStep → Outcome (Option Added) → List Accepted → List Accepted
accepted_by (add_snap tick table) x (ok (some a) w) l = accepted_as tick table a x.next.delta ∷ l
accepted_by (add_snap tick table) x (ok none w) l = l
accepted_by (add_snap tick table) x (err n w) l = l
accepted_by (set_delta_tick tick) x o l = l

-- all tables that were accepted, the newest first
unfoldable pub accepted_from : Controller → List ControllerCall → List Accepted → List Accepted
accepted_from c [] l = l
accepted_from c (x ∷ xs) l =
    accepted_from (controller_call c x).next xs (accepted_by x (controller_call c x) (controller_call c x).answer l)

-- ---- what goes out

-- a delta packed under known sizes
abbrev pub packed : List ℤ → Accepted → List ℕ
packed sizes a = pack_ints (delta_ints sizes a.delta)

-- the empty message of a table
abbrev pub empty_message : Accepted → Message
empty_message a = record { numbers = SnapEmpty a.tick (distance a.tick a.base); bytes = [] }

-- the messages of a table's delta
abbrev pub chunks_of : List ℤ → Accepted → List Message
chunks_of sizes a = delta_chunks a.tick a.base (packed sizes a) (crc a.table)

-- the messages of a table: those of its delta; or an empty message instead of them; or beside them, where the delta is empty
unfoldable pub messages_of : List ℤ → (ℤ → Bool) → Accepted → List Message
messages_of sizes instead a =
    cond (instead a.tick) (empty_message a ∷ [])
    (chunks_of sizes a ++ cond (is_empty_delta a.delta) (empty_message a ∷ []) [])

-- ---- the printer

-- its manager, and the areas that are lent to it
pub record Printer : Type 0 where
  pub receiver : Receiver
  pub store : Store
  pub parts : List ℕ
  pub joined : List ℕ
  pub delta : List ℤ
  pub area : List ℤ

-- an empty store in an area of n ints, part areas and a delta area
abbrev pub fresh_printer : ℕ → List ℕ → List ℕ → List ℤ → Printer
fresh_printer n parts joined delta =
    record {
      receiver = fresh_receiver;
      store = beside fresh_storage;
      parts = parts;
      joined = joined;
      delta = delta;
      area = replicate n (pos 0);
    }

abbrev pub left : ManagerStep → Printer
left x =
    record {
      receiver = x.receiver;
      store = x.store;
      parts = x.parts;
      joined = x.joined;
      delta = x.delta;
      area = x.area;
    }

-- a call of the printer: a message, with scratch of a length
pub data PrinterCall : Type 0 where
  message : Message → ℕ → PrinterCall

-- a message under known sizes, as the manager's calls are defined
abbrev pub printer_call : List ℤ → Printer → Message → ℕ → ManagerStep
printer_call sizes p m scratch =
    message_call sizes p.receiver p.store m p.parts p.joined p.delta p.area scratch

-- the printer after some calls
unfoldable pub after_received : List ℤ → Printer → List PrinterCall → Printer
after_received sizes p [] = p
after_received sizes p (message m n ∷ xs) = after_received sizes (left (printer_call sizes p m n)) xs

-- the messages of some calls
unfoldable pub messages_in : List PrinterCall → List Message
messages_in [] = []
messages_in (message m n ∷ xs) = m ∷ messages_in xs

-- an answer as the logbook gives it
abbrev pub answer_of : Outcome (Option ℤ) → Answer
answer_of (ok (some tick) w) = acknowledges tick
answer_of (ok none w) = not_yet
answer_of (err n w) = refused n

-- the answers to some calls
unfoldable pub answers : List ℤ → Printer → List PrinterCall → List Answer
answers sizes p [] = []
answers sizes p (message m n ∷ xs) =
    answer_of (printer_call sizes p m n).answer ∷ answers sizes (left (printer_call sizes p m n)) xs

-- ---- the logbook

-- the logbook after some messages
unfoldable pub after_notes : Logbook → List Message → Logbook
after_notes g [] = g
after_notes g (m ∷ ms) = after_notes (note_message g m.numbers).logbook ms

-- its answers
unfoldable pub noted : Logbook → List Message → List Answer
noted g [] = []
noted g (m ∷ ms) = (note_message g m.numbers).answer ∷ noted (note_message g m.numbers).logbook ms
