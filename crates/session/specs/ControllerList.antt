-- What a controller's store holds, by the list of its calls and which of them were refused. Assumes nothing.
use Rattle.std.specs.Prelude.{Bool, true, false, cond, List, [], ◌∷◌, ℤ, pos}
use Rattle.std.proofs.Math.Option.{Option, some, none}
use Rattle.definitions.specs.Ints.{signed_less}
use Rattle.definitions.specs.Outcome.{Outcome, ok, err}
use Rattle.definitions.specs.Tables.{items}
use Rattle.definitions.specs.Storage.{StoredSnap, Storage}
use Rattle.session.specs.Runs.{ControllerCall, add_snap, set_delta_tick, Controller, ControllerStep, controller_call}

-- a call, and whether it was answered or refused
pub record Told : Type 0 where
  pub call : ControllerCall
  pub answered : Bool

abbrev pub is_answered : {A : Type 0} → Outcome A → Bool
is_answered (ok a w) = true
is_answered (err n w) = false

-- a call and its step, before the calls listed already
abbrev pub told_by : ControllerCall → ControllerStep → List Told → List Told
told_by x y l = record { call = x; answered = is_answered y.answer } ∷ l

-- all calls of a controller, the last one first
unfoldable pub told_from : Controller → List ControllerCall → List Told → List Told
told_from c [] l = l
told_from c (x ∷ xs) l = told_from (controller_call c x).next xs (told_by x (controller_call c x) l)

-- the base tick after a call
abbrev pub base_after : ControllerCall → Bool → Option ℤ → Option ℤ
base_after (add_snap tick table) b o = o
base_after (set_delta_tick tick) true o = cond (signed_less tick (pos 0)) none (some tick)
base_after (set_delta_tick tick) false o = none

-- the base tick that is set: that of the last `set_delta_tick`, if it was answered and is not negative
unfoldable pub last_base : List Told → Option ℤ
last_base [] = none
last_base (x ∷ l) = base_after x.call x.answered (last_base l)

-- the tables that are not older than a tick
unfoldable pub not_older : ℤ → List StoredSnap → List StoredSnap
not_older tick [] = []
not_older tick (x ∷ l) = cond (signed_less x.tick tick) (not_older tick l) (x ∷ not_older tick l)

-- the tables held after a call; a refused `set_delta_tick` drops what is older too
abbrev pub tables_after : ControllerCall → Bool → List StoredSnap → List StoredSnap
tables_after (add_snap tick table) true l = record { tick = tick; snap = items table } ∷ l
tables_after (add_snap tick table) false l = l
tables_after (set_delta_tick tick) b l = cond (signed_less tick (pos 0)) l (not_older tick l)

-- the tables held, the newest first: those added, less those older than a base tick that was named later
unfoldable pub tables_left : List Told → List StoredSnap
tables_left [] = []
tables_left (x ∷ l) = tables_after x.call x.answered (tables_left l)

-- what the store then holds; a controller acknowledges nothing
abbrev pub storage_told : List Told → Storage
storage_told l = record { snaps = tables_left l; ack_tick = none; delta_tick = last_base l }
