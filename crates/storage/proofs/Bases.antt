-- Setting a base tick, case by case. Assumes nothing.
use mathlib.Core.Path.{◌≡◌, refl, ap, ◌∙◌}
use mathlib.Core.Bool.{Bool, true, false, cond, not, ◌&&◌}
use mathlib.Core.List.{List}
use mathlib.Core.Option.{some, none}
use Prim.Native.Nat.{ℕ}
use lib.IntN.{ℤ, negsuc}
use lib.ListN.{length}
use Rattle.definitions.specs.Refusals.{not_in_form, unknown_snap}
use Rattle.definitions.specs.Warnings.{Counts, WeirdNegativeDeltaTick}
use Rattle.definitions.specs.Warnings as Counts
use Rattle.definitions.specs.Outcome.{ok, return, refuse, warn_if}
use Rattle.definitions.specs.Receiver.{same}
use Rattle.definitions.specs.Storage as Store
use Rattle.definitions.specs.StorageCalls as Calls
use Rattle.format.specs.Totals.{counts}
use Rattle.format.specs.Sources.{weirdly}
use Rattle.format.specs.declared.Warnings.{Warnings}
use Rattle.format.specs.declared.Error.TheVariants as error
use Rattle.laws.specs.StoreForm.{LaidIn}
use Rattle.store_area.specs.Held.{snaps_in, Leaves}
use Rattle.store_area.specs.Laid.{leaves-many, leaves-laid}
use Rattle.store_area.specs.Stores.{holds_in, Holds, holds-is}
use Rattle.storage.specs.States.{store_of, ack_of}
use Rattle.storage.specs.Answers.{settings}
use Rattle.std.specs.Prelude.{Err, Ok}
use Rattle.storage.specs.declared.Storage.{Storage}

module _ (s : Store.Store) (a : List ℤ) (tick : ℤ) where
  -- the store is not in form
  pub set-47 : Store.storage_of s a ≡ none → Calls.set_delta_tick_call s a tick ≡ record { answer = refuse not_in_form; store = s; area = a }
  unfolding Calls.held_storage Calls.after_judging
  set-47 e = rw e

  -- it is
  pub set-held : (h : Store.Storage) → Store.storage_of s a ≡ some h → Calls.set_delta_tick_call s a tick ≡ Calls.laid_out a (Store.set_delta_tick tick h)
  unfolding Calls.held_storage Calls.after_judging
  set-held h e = rw e

-- a test that holds
taken : {A : Type 0} (b : Bool) (x y : A) → b ≡ true → cond b x y ≡ x
taken b x y e = rw e

module _ (h : Store.Storage) (a : List ℤ) (tick : ℤ) where
  -- a negative tick
  pub set-none : (w : Counts) → Store.is_negative tick ≡ true → Store.warn_weird tick ≡ ok tt w → LaidIn (length a) h.snaps a
      → Calls.laid_out a (Store.set_delta_tick tick h) ≡ record { answer = ok tt w; store = record { count = length h.snaps; ack_tick = h.ack_tick; delta_tick = none }; area = a }
  unfolding Store.set_delta_tick
  set-none w n e f =
      ap (Calls.laid_out a) (taken (Store.is_negative tick) (record { answer = Store.warn_weird tick; storage = Store.with_delta_tick h none }) _ n)
      ∙ rw (e, ← f)

  module _ (n : Store.is_negative tick ≡ false) (out : List ℤ) (o : LaidIn (length a) (Store.drop_older tick h.snaps) out) where
    -- the tables that are left
    abbrev L : List Store.StoredSnap
    L = Store.drop_older tick h.snaps

    -- the oldest table is of the tick
    set-done : Store.is_held (Store.oldest_at tick L) ≡ true
        → Calls.laid_out a (Store.set_delta_tick tick h) ≡ record { answer = return tt; store = record { count = length L; ack_tick = h.ack_tick; delta_tick = some tick }; area = out }
    unfolding Store.set_delta_tick
    set-done e = rw (n, e, o)

    -- it is not
    set-31 : Store.is_held (Store.oldest_at tick L) ≡ false
        → Calls.laid_out a (Store.set_delta_tick tick h) ≡ record { answer = refuse unknown_snap; store = record { count = length L; ack_tick = h.ack_tick; delta_tick = none }; area = out }
    unfolding Store.set_delta_tick
    set-31 e = rw (n, e, o)

-- ---- the same for the code's answers

module _ (s : Storage) (a : List ℤ) (tick : ℤ) (w : Warnings) where
  -- not in form
  pub refused-47 : counts w ≡ Counts.none → Store.storage_of (store_of s) a ≡ none
      → Calls.set_delta_tick_call (store_of s) a tick ≡ settings (record { answer = Err error.NotInForm; warnings = w; storage = s }) a
  refused-47 e f = set-47 (store_of s) a tick f ∙ rw e

  module _ (k : ℕ) (h : Holds (store_of s) a k) where
    -- a negative tick
    pub no-base : (t : Storage) → Store.is_negative tick ≡ true → Store.warn_weird tick ≡ ok tt (counts w)
        → store_of t ≡ record { count = s.count; ack_tick = ack_of s; delta_tick = none }
        → Calls.set_delta_tick_call (store_of s) a tick ≡ settings (record { answer = Ok tt; warnings = w; storage = t }) a
    no-base t n e f =
        set-held (store_of s) a tick (holds_in (store_of s) a) (holds-is (store_of s) a k h)
        ∙ (set-none (holds_in (store_of s) a) a tick (counts w) n e h.held.stands.area-is
        ∙ rw (f, h.held.many))

    module _ (n : Store.is_negative tick ≡ false) (t : Storage) (out : List ℤ) (m i : ℕ)
        (v : Leaves a (Store.drop_older tick (snaps_in s.count a)) m i out) (e : counts w ≡ Counts.none) where
      -- whether the base is held
      abbrev held : Bool
      held = Store.is_held (Store.oldest_at tick (Store.drop_older tick (snaps_in s.count a)))

      -- what the call is
      abbrev Call : Calls.StoreStep (Unit {0})
      Call = Calls.laid_out a (Store.set_delta_tick tick (holds_in (store_of s) a))

      -- the base is set
      pub base-set : held ≡ true → store_of t ≡ record { count = m; ack_tick = ack_of s; delta_tick = some tick }
          → Call ≡ settings (record { answer = Ok tt; warnings = w; storage = t }) out
      base-set b f = set-done (holds_in (store_of s) a) a tick n out (leaves-laid v) b ∙ rw (e, f, leaves-many v)

      -- it is not held
      pub base-unknown : held ≡ false → store_of t ≡ record { count = m; ack_tick = ack_of s; delta_tick = none }
          → Call ≡ settings (record { answer = Err error.UnknownSnap; warnings = w; storage = t }) out
      base-unknown b f = set-31 (holds_in (store_of s) a) a tick n out (leaves-laid v) b ∙ rw (e, f, leaves-many v)

-- ---- the warning

-- the warning is counted so
pub weird-cases : (b : Bool) → warn_if b WeirdNegativeDeltaTick ≡ ok tt (weirdly b)
weird-cases true = refl
weird-cases false = refl

-- by the test of a tick
pub weird-by : (tick : ℤ) (b : Bool) → b ≡ (Store.is_negative tick && not (same tick (negsuc 0))) → Store.warn_weird tick ≡ ok tt (weirdly b)
weird-by tick b e = rw e (weird-cases (Store.is_negative tick && not (same tick (negsuc 0))))
