-- What C sees, given a known call. Assumes nothing.
use Rattle.std.specs.Prelude.{◌≡◌, refl, List, ℕ, ℤ, Result, Ok, Err}
use Rattle.std.proofs.Math.Option.{Option}
use Rattle.definitions.specs.Warnings.{Counts}
use Rattle.definitions.specs.Outcome.{Outcome}
use Rattle.definitions.specs.Storage.{Store}
use Rattle.definitions.specs.StorageCalls.{StoreStep, AddStep, set_delta_tick_call, add_delta_call, add_snap_call, add_snap_clash}
use Rattle.delta_making.specs.declared.MakeError.{MakeError}
use Rattle.format.specs.declared.Error.{Error}
use Rattle.format.specs.Totals.{row}
use Rattle.boundary.specs.Boundary.{status, warnings_of, output, refusal, key_or}
use Rattle.boundary_states.specs.Rows.{SavedStore}
use Rattle.boundary_states.specs.Few.{Fits}
use Rattle.ticks.specs.declared.Tick.{Tick}
use Rattle.storage.specs.Answers.{set_with, added_in, added_clash}
use Rattle.storage.specs.Taking.{taken_with}
use Rattle.storage.specs.declared.Added.{Added}
use Rattle.capi_storage.specs.Told.{Told, ToldAdded, Beside}

-- ---- calls with an equal store and equal numbers

pub set-moved : {s h : Store} {t' t : ℤ} (area : List ℤ) {o : StoreStep (Unit {0})} → s ≡ h → t' ≡ t → set_delta_tick_call s area t' ≡ o → set_delta_tick_call h area t ≡ o
set-moved area p q e = rw (p, q) at e

pub delta-moved : {s h : Store} {sum' sum : Option ℤ} {b' b t' t : ℤ} (area delta : List ℤ) (n : ℕ) {o : StoreStep ℤ} → s ≡ h → sum' ≡ sum → b' ≡ b → t' ≡ t → add_delta_call s area sum' b' t' delta n ≡ o → add_delta_call h area sum b t delta n ≡ o
delta-moved area delta n p q r u e = rw (p, q, r, u) at e

pub snap-moved : {s h : Store} {t' t : ℤ} (area table delta : List ℤ) {o : AddStep} → s ≡ h → t' ≡ t → add_snap_call s area t' table delta ≡ o → add_snap_call h area t table delta ≡ o
snap-moved area table delta p q e = rw (p, q) at e

pub clash-moved : {s h : Store} {t' t : ℤ} (area table delta : List ℤ) {k : Option ℤ} → s ≡ h → t' ≡ t
    → k ≡ add_snap_clash s area t' table delta → k ≡ add_snap_clash h area t table delta
clash-moved area table delta p q e = rw (p, q) at e

-- ---- the store fits into its rows

module _ {A : Type 0} (o : StoreStep A) {a : Outcome A} {s : Store} {area : List ℤ} (e : o ≡ record { answer = a; store = s; area = area }) where
  pub fits_after : Fits o.store → Fits s
  fits_after f = rw e at f

  -- what C sees of a step
  pub told : {ticks₀ ticks : List ℤ} {counts₀ counts ws : List ℕ} (r : ℕ) → SavedStore s ticks₀ counts₀ ticks counts → r ≡ status a → ws ≡ row (warnings_of a) → Told o ticks₀ counts₀ ticks counts area ws r
  told r k p q = rw e (record { number_is = p; saved = k; area-is = refl; warnings-are = q })

-- ---- the answers

pub set-warned : (a : Result (Unit {0}) Error) (w : Counts) → warnings_of (set_with a w) ≡ w
set-warned (Ok _) w = refl
set-warned (Err x) w = refl

pub set-number : (a : Result (Unit {0}) Error) (w : Counts) → refusal a ≡ status (set_with a w)
set-number (Ok _) w = refl
set-number (Err x) w = refl

pub taken-warned : (a : Result Tick Error) (w : Counts) → warnings_of (taken_with a w) ≡ w
taken-warned (Ok t) w = refl
taken-warned (Err x) w = refl

pub taken-number : (a : Result Tick Error) (w : Counts) → refusal a ≡ status (taken_with a w)
taken-number (Ok t) w = refl
taken-number (Err x) w = refl

-- ---- adding a table

-- the values of the outputs
abbrev pub Tells : (a : Result Added MakeError) (r : ℕ) (base₀ base : ℤ) (count₀ count : ℕ) (clash₀ clash : ℤ) → Type 0
Tells a r base₀ base count₀ count clash₀ clash =
    (r ≡ status (added_in a))
    × ((base ≡ output (λ x. x.base) base₀ (added_in a))
    × ((count ≡ output (λ x. x.ints) count₀ (added_in a)) × (clash ≡ key_or clash₀ (added_clash a))))

module _ (o : AddStep) (a : Result Added MakeError) {s : Store} {area delta : List ℤ} (e : o ≡ record { answer = added_in a; store = s; area = area; delta = delta }) where
  pub fits-added : Fits o.store → Fits s
  fits-added f = rw e at f

  pub added-told : (before after : Beside) (r : ℕ) (clash₀ clash : ℤ) → SavedStore s before.ticks before.counts after.ticks after.counts → Tells a r before.base after.base before.count after.count clash₀ clash → ToldAdded o before after area delta r
  added-told before after r clash₀ clash k t =
      rw e
      (record {
        number_is = t.0;
        saved = k;
        area-is = refl;
        delta-is = refl;
        base-is = t.1.0;
        count-is = t.1.1.0;
      })
