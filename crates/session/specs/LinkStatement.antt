-- A link: what a printer is sent, what is required of it, and what printer and logbook then agree on. No controller is involved. Assumes nothing.
use Rattle.std.specs.Prelude.{◌≡◌, Bool, List, ◌∷◌, ◌++◌, ℕ, ◌≤◌, ℤ, pos}
use Rattle.definitions.specs.Outcome.{return}
use Rattle.definitions.specs.Tables.{Table}
use Rattle.definitions.specs.DeltaMaking.{create_delta}
use Rattle.definitions.specs.Messages.{Message}
use Rattle.definitions.specs.Logbook.{fresh_logbook}
use Rattle.laws.specs.Clean.{Clean}
use Rattle.session.specs.Runs.{Accepted, Printer, fresh_printer, PrinterCall, message, after_received, messages_in, answers, after_notes, noted}
use Rattle.session.specs.Statement.{Among, All, Rising, Base, Sent, PrinterHolds, AcknowledgedWhen}

-- the sizes known, when an empty message goes instead, the deltas that may go out, the newest first, the printer and its calls
pub record Link : Type 0 where
  pub sizes : List ℤ
  pub instead : ℤ → Bool
  pub deltas : List Accepted
  pub printer : Printer
  pub received : List PrinterCall

-- a delta was made against the table that its base names
pub record MadeOn (At : ℤ → Table → Type 0) (a : Accepted) : Type 0 where
  pub base : Table
  pub named : Base At a.base base
  pub made : create_delta base a.table ≡ return a.delta

-- what is required of a link, except for the lengths of areas; At gives the controller's table at a tick
pub record LinkHolds (At : ℤ → Table → Type 0) (k : Link) : Type 0 where
  pub one : {t : ℤ} {u v : Table} → At t u → At t v → u ≡ v
  pub number : {t : ℤ} {u : Table} → At t u → (n : ℕ) × (t ≡ pos n) × (n ≤ 2147483647)
  pub clean : {t : ℤ} {u : Table} → At t u → Clean u
  pub covers : {a : Accepted} → Among a k.deltas → At a.tick a.table
  pub rising : Rising k.deltas
  pub made : All (MadeOn At) k.deltas
  pub area : ℕ
  pub parts : List ℕ
  pub joined : List ℕ
  pub delta : List ℤ
  pub fresh : k.printer ≡ fresh_printer area parts joined delta
  pub sent : All (Sent k.sizes k.instead At k.deltas) (messages_in k.received)

-- what then holds
pub record Agreement (At : ℤ → Table → Type 0) (k : Link) : Type 0 where
  -- each table that the printer holds is the one at its tick; ticks held and acknowledgement are the logbook's, after each call
  pub printer : (xs ys : List PrinterCall) → k.received ≡ xs ++ ys
      → PrinterHolds At (after_received k.sizes k.printer xs) (after_notes fresh_logbook (messages_in xs))
  -- a call acknowledges a tick exactly when it brings the last of its parts still missing, nothing newer came before, and its base is held or negative
  pub acknowledgements : (xs ys : List PrinterCall) (m : Message) (n : ℕ) → k.received ≡ xs ++ message m n ∷ ys
      → AcknowledgedWhen k.sizes (after_received k.sizes k.printer xs) (messages_in xs) m n
  -- the answers are the logbook's
  pub same_answers : answers k.sizes k.printer k.received ≡ noted fresh_logbook (messages_in k.received)
