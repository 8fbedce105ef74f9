-- What C sees of a message for a manager, by the definition's step. Assumes nothing.
use Rattle.std.specs.Prelude.{◌≡◌, List, ℕ, ℤ, Result}
use Rattle.std.specs.Prelude as Prelude
use Rattle.std.proofs.Math.Option.{Option, some, none}
use Rattle.definitions.specs.Warnings.{Counts}
use Rattle.definitions.specs.Receiver.{Receiver}
use Rattle.definitions.specs.Storage.{Store}
use Rattle.definitions.specs.Manager.{ManagerStep}
use Rattle.format.specs.Totals.{counts, row}
use Rattle.format.specs.declared.Error.{Error}
use Rattle.ticks.specs.declared.Tick.{Tick}
use Rattle.receiver.specs.States.{receiver_of}
use Rattle.storage.specs.States.{store_of}
use Rattle.manager.specs.Answers.{handled_with}
use Rattle.manager.specs.declared.Handling.{Handling}
use Rattle.boundary.specs.Boundary.{status, warnings_of, output, key_or}
use Rattle.boundary_states.specs.Rows.{SavedReceiver, SavedStore}

-- 1 if a table was taken, 0 if parts are missing
abbrev pub took_one : Option ℤ → ℕ
took_one (some tick) = 1
took_one none = 0

-- the rows of a manager, whether a table was taken, and its tick
pub record Rows : Type 0 where
  pub ticks_of_receiver : List ℤ
  pub counts_of_receiver : List ℕ
  pub lengths : List ℕ
  pub ticks : List ℤ
  pub counts : List ℕ
  pub taken : ℕ
  pub ack : ℤ

-- the rows of a receiver and a store, before and after a call
pub record Saved (r : Receiver) (s : Store) (before after : Rows) : Type 0 where
  pub receiver-saved : SavedReceiver r before.ticks_of_receiver before.counts_of_receiver before.lengths after.ticks_of_receiver after.counts_of_receiver after.lengths
  pub store-saved : SavedStore s before.ticks before.counts after.ticks after.counts

-- a step: the rows before and after, the four areas, the counts and the number
pub record Told (step : ManagerStep) (before after : Rows) (parts joined : List ℕ) (delta area : List ℤ) (warnings : List ℕ) (r : ℕ) : Type 0 where
  pub number_is : r ≡ status step.answer
  pub saved : Saved step.receiver step.store before after
  pub taken_is : after.taken ≡ output took_one before.taken step.answer
  pub ack-is : after.ack ≡ output (key_or before.ack) before.ack step.answer
  pub parts_are : parts ≡ step.parts
  pub joined_is : joined ≡ step.joined
  pub delta-is : delta ≡ step.delta
  pub area-is : area ≡ step.area
  pub warnings-are : warnings ≡ row (warnings_of step.answer)

-- ---- what the inner functions promise

-- whether a table was taken, its tick and the number, by the answer
pub record Tells (a : Result (Prelude.Option Tick) Error) (taken₀ : ℕ) (ack₀ : ℤ) (taken : ℕ) (ack : ℤ) (r : ℕ) : Type 0 where
  pub number_is : (w : Counts) → r ≡ status (handled_with a w)
  pub taken_is : (w : Counts) → taken ≡ output took_one taken₀ (handled_with a w)
  pub ack-is : (w : Counts) → ack ≡ output (key_or ack₀) ack₀ (handled_with a w)

-- the result of a message, with its counts
pub record Settles (h : Handling) (before after : Rows) (warnings : List ℕ) (r : ℕ) : Type 0 where
  pub tells : Tells h.answer before.taken before.ack after.taken after.ack r
  pub saved : Saved (receiver_of h.manager.receiver) (store_of h.manager.storage) before after
  pub warnings-are : warnings ≡ row (counts h.warnings)
