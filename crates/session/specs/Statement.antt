-- Demand 3, with the rules for sessions in docs/FORMAT.md: what a session is, and what is claimed about it. Assumes nothing.
use Rattle.std.specs.Prelude.{◌≡◌, Bool, true, false, List, [], ◌∷◌, ◌++◌, map, ◌↔◌, ℕ, ◌<◌, ◌≤◌, ℤ, pos, negsuc, length}
use Rattle.std.proofs.Math.Option.{Option, some}
use Rattle.definitions.specs.Ints.{signed_less}
use Rattle.definitions.specs.Refusals.{delta_differing_sizes, capacity_error, scratch_too_short, store_full, unknown_snap, not_in_form}
use Rattle.definitions.specs.Warnings.{Counts, one, WeirdNegativeDeltaTick}
use Rattle.definitions.specs.Warnings as Warnings
use Rattle.definitions.specs.Outcome.{Outcome, ok, err, return, refuse}
use Rattle.definitions.specs.Tables.{Table, table_of, num}
use Rattle.definitions.specs.Deltas.{Delta, written_delta}
use Rattle.definitions.specs.DeltaMaking.{create_delta}
use Rattle.definitions.specs.DeltaCalls.{sizes_match}
use Rattle.definitions.specs.Messages.{SnapMsg, Snap, SnapEmpty, SnapSingle, Message, base_tick}
use Rattle.definitions.specs.Receiver.{same}
use Rattle.definitions.specs.Storage.{StoredSnap, Storage, storage_of}
use Rattle.definitions.specs.StorageCalls.{Added}
use Rattle.definitions.specs.Logbook.{Logbook, fresh_logbook, acknowledges}
use Rattle.laws.specs.BuilderForm.{Built}
pub use Rattle.laws.specs.ListLaws.{Among, here, there}
use Rattle.session.specs.Lengths.{store_area_ints, delta_area_ints, packed_bytes}
use Rattle.session.specs.Runs.{ControllerCall, add_snap, set_delta_tick, Controller, ControllerStep, controller_call, fresh_controller, after_calls, Accepted, accepted_as, accepted_from, packed, chunks_of, empty_message, messages_of, Printer, fresh_printer, PrinterCall, message, printer_call, after_received, messages_in, answer_of, answers, after_notes, noted}
use Rattle.session.specs.ControllerList.{told_from, storage_told}
use Rattle.session.specs.SendingCalls.{cut_calls, send_calls}

-- all of a list
pub data All {A : Type 0} (P : A → Type 0) : List A → Type 0 where
  none : All P []
  more : {a : A} {l : List A} → P a → All P l → All P (a ∷ l)

-- ---- the session

-- "at strictly rising ticks from 0": the accepted tables, the newest first
pub data Rising : List Accepted → Type 0 where
  none : Rising []
  more : {a : Accepted} {l : List Accepted} (n : ℕ) → a.tick ≡ pos n → n ≤ 2147483647 → All (λ b. signed_less b.tick a.tick ≡ true) l → Rising l
      → Rising (a ∷ l)

-- the table that was accepted at a tick
pub record AcceptedAt (l : List Accepted) (t : ℤ) (u : Table) : Type 0 where
  pub table : Accepted
  pub accepted : Among table l
  pub tick_is : table.tick ≡ t
  pub table_is : table.table ≡ u

-- the table that a base tick names, where others are at their ticks; -1 names the empty table
pub data Base (At : ℤ → Table → Type 0) : ℤ → Table → Type 0 where
  empty : Base At (negsuc 0) []
  named : {t : ℤ} {u : Table} → At t u → Base At t u

-- whether a message carries bytes
abbrev pub carries : SnapMsg → Bool
carries (Snap t d n p crc) = true
carries (SnapSingle t d crc) = true
carries (SnapEmpty t d) = false

-- a delta that goes out in bytes: known sizes match its data, and "packed deltas are at most 28,800 bytes"
pub record Carried (sizes : List ℤ) (a : Accepted) : Type 0 where
  pub matches : sizes_match sizes a.delta.updated ≡ true
  pub short : length (packed sizes a) ≤ packed_bytes

-- a message that the controller sent for an accepted table; "an empty message stands only for a table equal to its base"
pub record Sent (sizes : List ℤ) (instead : ℤ → Bool) (At : ℤ → Table → Type 0) (l : List Accepted) (m : Message) : Type 0 where
  pub table : Accepted
  pub accepted : Among table l
  pub goes : Among m (messages_of sizes instead table)
  pub carried : carries m.numbers ≡ true → Carried sizes table
  pub equal : instead table.tick ≡ true → Base At table.base table.table

-- both lists of calls, from empty stores: a store area of some length for each, and other areas of any content; known sizes stay the same
pub record Session : Type 0 where
  pub sizes : List ℤ
  pub controller : Controller
  pub calls : List ControllerCall
  pub printer : Printer
  pub received : List PrinterCall
  pub instead : ℤ → Bool

-- the tables that the controller accepted
abbrev pub accepted_in : Session → List Accepted
accepted_in s = accepted_from s.controller s.calls []

-- what docs/FORMAT.md requires of a session, except for the lengths of areas; "the controller adds only tables made with the builder"
pub record Holds (s : Session) : Type 0 where
  pub area : ℕ
  pub delta : List ℤ
  pub controller_fresh : s.controller ≡ fresh_controller area delta
  pub printer_area : ℕ
  pub parts : List ℕ
  pub joined : List ℕ
  pub printer_delta : List ℤ
  pub printer_fresh : s.printer ≡ fresh_printer printer_area parts joined printer_delta
  pub built : All (λ (a : Accepted). Built a.table) (accepted_in s)
  pub rising : Rising (accepted_in s)
  pub sent : All (Sent s.sizes s.instead (AcceptedAt (accepted_in s)) (accepted_in s)) (messages_in s.received)

-- ---- areas

-- an outcome is no refusal for want of room
abbrev pub Suffices : {A : Type 0} → Outcome A → Type 0
Suffices (ok a w) = Unit {0}
Suffices (err n w) = (n ≡ capacity_error → ⊥) × (n ≡ scratch_too_short → ⊥)

-- the step of the controller's call after some others
abbrev pub step_after : Session → List ControllerCall → ControllerCall → ControllerStep
step_after s xs x = controller_call (after_calls s.controller xs) x

-- no call of a printer is refused for that
abbrev pub ReceivedSuffices : List ℤ → Printer → List PrinterCall → Type 0
ReceivedSuffices sizes p cs =
    (xs ys : List PrinterCall) (m : Message) (n : ℕ) → cs ≡ xs ++ message m n ∷ ys → Suffices (printer_call sizes (after_received sizes p xs) m n).answer

-- "areas and scratch suffice by the rules for 40 and 41": no call is refused for that
pub record AreasSuffice (s : Session) : Type 0 where
  pub controller : (xs ys : List ControllerCall) (x : ControllerCall) → s.calls ≡ xs ++ x ∷ ys → Suffices (step_after s xs x).answer
  pub printer : ReceivedSuffices s.sizes s.printer s.received

-- scratch of a call that always suffices
abbrev pub ScratchLong : PrinterCall → Type 0
ScratchLong (message m n) = packed_bytes ≤ n

-- a printer's areas that always suffice
pub record PrinterLong (p : Printer) : Type 0 where
  pub area : store_area_ints ≤ length p.area
  pub delta : delta_area_ints ≤ length p.delta
  pub parts : packed_bytes ≤ length p.parts
  pub joined : packed_bytes ≤ length p.joined

-- areas and scratch that always suffice
pub record AreasLong (s : Session) : Type 0 where
  pub area : store_area_ints ≤ length s.controller.area
  pub delta : delta_area_ints ≤ length s.controller.delta
  pub printer : PrinterLong s.printer
  pub scratch : All ScratchLong s.received

-- ---- the claim about the controller

-- a table of a tick is held
pub record HeldAt (t : ℤ) (l : List StoredSnap) : Type 0 where
  pub snap : StoredSnap
  pub among : Among snap l
  pub tick_is : snap.tick ≡ t

-- a tick, or -1
abbrev pub or_none : Option ℤ → ℤ
or_none (some t) = t
or_none Option.none = negsuc 0

-- the base of the next table: the one held at the tick that is set, or the empty table
pub data BaseIn (s : Storage) : Table → Type 0 where
  held : {x : StoredSnap} → s.delta_tick ≡ some x.tick → Among x s.snaps → BaseIn s x.snap
  empty : s.delta_tick ≡ Option.none → BaseIn s []

-- the warning for a negative base tick: one other than -1 is weird
pub data Weird : ℤ → Counts → Type 0 where
  minus_one : {t : ℤ} → same t (negsuc 0) ≡ true → Weird t Warnings.none
  other : {t : ℤ} → same t (negsuc 0) ≡ false → Weird t (one WeirdNegativeDeltaTick)

-- how a controller's call is answered, from what its store holds
pub data Answered (s : Storage) : ControllerCall → Outcome (Option Added) → Type 0 where
  unformed : {t : ℤ} {table : List ℤ} → table_of table ≡ Option.none → Answered s (add_snap t table) (refuse not_in_form)
  full : {t : ℤ} {table : List ℤ} {u : Table} → table_of table ≡ some u → 100 ≤ length s.snaps → Answered s (add_snap t table) (refuse store_full)
  clash : {t : ℤ} {table : List ℤ} {u b : Table} → table_of table ≡ some u → length s.snaps < 100 → BaseIn s b
      → create_delta b u ≡ refuse delta_differing_sizes → Answered s (add_snap t table) (refuse delta_differing_sizes)
  adds : {t : ℤ} {table : List ℤ} {u b : Table} {d : Delta} → table_of table ≡ some u → length s.snaps < 100 → BaseIn s b → create_delta b u ≡ return d
      → Answered s (add_snap t table) (return (some (record { base = or_none s.delta_tick; ints = length (written_delta d) })))
  unset : {t : ℤ} {w : Counts} → signed_less t (pos 0) ≡ true → Weird t w → Answered s (set_delta_tick t) (ok Option.none w)
  sets : {t : ℤ} → signed_less t (pos 0) ≡ false → HeldAt t s.snaps → Answered s (set_delta_tick t) (return Option.none)
  unknown : {t : ℤ} → signed_less t (pos 0) ≡ false → (HeldAt t s.snaps → ⊥) → Answered s (set_delta_tick t) (refuse unknown_snap)

-- what follows from some calls about the controller's store
abbrev pub controller_told : Session → List ControllerCall → Storage
controller_told s xs = storage_told (told_from s.controller xs [])

-- an accepted table's delta was made against its base, which is the empty table or an older accepted one
pub record BaseRight (l : List Accepted) (a : Accepted) : Type 0 where
  pub base : Table
  pub named : Base (AcceptedAt l) a.base base
  pub older : signed_less a.base a.tick ≡ true
  pub made : create_delta base a.table ≡ return a.delta

-- the calls that send, on the areas that `add_snap` read and wrote, give the messages of its table; on no bytes they give its empty message
pub record SentRight (sizes : List ℤ) (tick : ℤ) (table : List ℤ) (a : Added) (delta : List ℤ) : Type 0 where
  pub chunks : (out : List ℕ) → let x : Accepted = accepted_as tick table a delta in Carried sizes x → length (packed sizes x) ≤ length out
      → send_calls sizes tick a.base table delta out ≡ return (chunks_of sizes x)
  pub empty : (crc : ℤ) → cut_calls tick a.base [] crc ≡ return (empty_message (accepted_as tick table a delta) ∷ [])

-- ---- the claim about the printer

-- the numbers of a message that go to the logbook: a single or an empty one is part 0 of 1
abbrev pub tick_of : SnapMsg → ℤ
tick_of (Snap t d n p crc) = t
tick_of (SnapSingle t d crc) = t
tick_of (SnapEmpty t d) = t

abbrev pub base_of : SnapMsg → ℤ
base_of (Snap t d n p crc) = base_tick t d
base_of (SnapSingle t d crc) = base_tick t d
base_of (SnapEmpty t d) = base_tick t d

abbrev pub part_of : SnapMsg → ℕ
part_of (Snap t d n p crc) = num p
part_of (SnapSingle t d crc) = 0
part_of (SnapEmpty t d) = 0

abbrev pub count_of : SnapMsg → ℕ
count_of (Snap t d n p crc) = num n
count_of (SnapSingle t d crc) = 1
count_of (SnapEmpty t d) = 1

-- part p of tick t is among some messages
pub record Came (t : ℤ) (p : ℕ) (xs : List Message) : Type 0 where
  pub message : Message
  pub among : Among message xs
  pub tick_is : tick_of message.numbers ≡ t
  pub part-is : part_of message.numbers ≡ p

-- a message brings the last part of its tick that is missing after xs, nothing newer came before, and its base is held or negative
pub record Completes (xs : List Message) (l : List StoredSnap) (m : SnapMsg) : Type 0 where
  pub new : Came (tick_of m) (part_of m) xs → ⊥
  pub others : (q : ℕ) → q < count_of m → (q ≡ part_of m → ⊥) → Came (tick_of m) q xs
  pub newest : (x : Message) → Among x xs → signed_less (tick_of m) (tick_of x.numbers) ≡ false
  pub based : signed_less (base_of m) (pos 0) ≡ false → HeldAt (base_of m) l

-- what a printer holds, by its logbook: its area is in form, each table is, item for item, the one at its tick, and
-- the ticks held and the acknowledgement are the noted ones
pub record PrinterHolds (At : ℤ → Table → Type 0) (p : Printer) (g : Logbook) : Type 0 where
  pub storage : Storage
  pub in-form : storage_of p.store p.area ≡ some storage
  pub tables : All (λ (x : StoredSnap). At x.tick x.snap) storage.snaps
  pub ticks : map (λ (x : StoredSnap). x.tick) storage.snaps ≡ g.held
  pub acknowledged : p.store.ack_tick ≡ g.acknowledged

-- a message is acknowledged exactly when it completes its tick, by what the printer then holds
abbrev pub AcknowledgedWhen : List ℤ → Printer → List Message → Message → ℕ → Type 0
AcknowledgedWhen sizes p xs m n =
    (h : Storage) → storage_of p.store p.area ≡ some h
    → (answer_of (printer_call sizes p m n).answer ≡ acknowledges (tick_of m.numbers)) ↔ Completes xs h.snaps m.numbers

-- the printer and the logbook after some calls
abbrev pub printer_after : Session → List PrinterCall → Printer
printer_after s xs = after_received s.sizes s.printer xs

abbrev pub logbook_after : List PrinterCall → Logbook
logbook_after xs = after_notes fresh_logbook (messages_in xs)

-- ---- the claim about both lists

pub record Demand3 (s : Session) : Type 0 where
  -- after each of its calls the controller's store is in form, and holds what follows from the calls
  pub holds : (xs ys : List ControllerCall) → s.calls ≡ xs ++ ys
      → storage_of (after_calls s.controller xs).store (after_calls s.controller xs).area ≡ some (controller_told s xs)
  -- its calls are answered, and add_snap chose its base, as defined
  pub controller : (xs ys : List ControllerCall) (x : ControllerCall) → s.calls ≡ xs ++ x ∷ ys
      → Answered (controller_told s xs) x (step_after s xs x).answer
  pub bases : All (BaseRight (accepted_in s)) (accepted_in s)
  -- the calls that send give the messages of an added table
  pub sending : (xs ys : List ControllerCall) (tick : ℤ) (table : List ℤ) (a : Added) (w : Counts) → s.calls ≡ xs ++ add_snap tick table ∷ ys
      → (step_after s xs (add_snap tick table)).answer ≡ ok (some a) w
      → SentRight s.sizes tick table a (step_after s xs (add_snap tick table)).next.delta
  -- each table that the printer holds is the one accepted at its tick; ticks held and acknowledgement are the logbook's, after each of its calls
  pub printer : (xs ys : List PrinterCall) → s.received ≡ xs ++ ys → PrinterHolds (AcceptedAt (accepted_in s)) (printer_after s xs) (logbook_after xs)
  -- a call acknowledges a tick exactly when it brings the last of its parts still missing, nothing newer came before, and its base is held or negative
  pub acknowledgements : (xs ys : List PrinterCall) (m : Message) (n : ℕ) → s.received ≡ xs ++ message m n ∷ ys
      → AcknowledgedWhen s.sizes (printer_after s xs) (messages_in xs) m n
  -- the answers are the logbook's
  pub same_answers : answers s.sizes s.printer s.received ≡ noted fresh_logbook (messages_in s.received)
