-- What C sees, given a message with a known step. Assumes nothing.
use Rattle.std.specs.Prelude.{◌≡◌, refl, List, ℕ, ℤ, Some, None, Result, Ok, Err}
use Rattle.std.specs.Prelude as Prelude
use Rattle.std.proofs.Common.{sym, ap, ◌∙◌}
use Rattle.definitions.specs.Warnings.{Counts}
use Rattle.definitions.specs.Messages.{SnapMsg, Snap, SnapEmpty, SnapSingle}
use Rattle.definitions.specs.Receiver.{Receiver}
use Rattle.definitions.specs.Storage.{Store}
use Rattle.definitions.specs.Manager.{ManagerStep, message_call}
use Rattle.format.specs.Totals.{counts, row}
use Rattle.format.specs.declared.Error.{Error}
use Rattle.ticks.specs.declared.Tick.{Tick}
use Rattle.storage.specs.States.{store_of}
use Rattle.manager.specs.Answers.{handled_with, handlings}
use Rattle.manager.specs.declared.Handling.{Handling}
use Rattle.boundary.specs.Boundary.{warnings_of}
use Rattle.boundary_states.specs.Few.{Fits}
use Rattle.capi_manager.specs.Told.{Rows, Told, Settles}

-- the warnings of an answer
warned : (a : Result (Prelude.Option Tick) Error) (w : Counts) → warnings_of (handled_with a w) ≡ w
warned (Ok (Some t)) w = refl
warned (Ok None) w = refl
warned (Err x) w = refl

-- ---- the numbers of a message

pub part-named : {t d n p k t' d' n' p' k' : ℤ} → t' ≡ t → d' ≡ d → n' ≡ n → p' ≡ p → k' ≡ k → Snap t' (record { ticks = d' }) n' p' k' ≡ Snap t (record { ticks = d }) n p k
part-named t d n p k = rw (t, d, n, p, k) refl

pub single-named : {t d k t' d' k' : ℤ} → t' ≡ t → d' ≡ d → k' ≡ k → SnapSingle t' (record { ticks = d' }) k' ≡ SnapSingle t (record { ticks = d }) k
single-named t d k = rw (t, d, k) refl

pub empty-named : {t d t' d' : ℤ} → t' ≡ t → d' ≡ d → SnapEmpty t' (record { ticks = d' }) ≡ SnapEmpty t (record { ticks = d })
empty-named t d = rw (t, d) refl

-- ---- the step

-- a message with an equal receiver, store and numbers
pub moved : {r r' : Receiver} {s s' : Store} {m m' : SnapMsg} (sizes : List ℤ) (bytes parts joined : List ℕ) (delta area : List ℤ) (n : ℕ) {o : ManagerStep} → r ≡ r' → s ≡ s' → m ≡ m' → message_call sizes r s (record { numbers = m; bytes = bytes }) parts joined delta area n ≡ o → message_call sizes r' s' (record { numbers = m'; bytes = bytes }) parts joined delta area n ≡ o
moved sizes bytes parts joined delta area n p q t e = rw (p, q, t) at e

module _ (o : ManagerStep) (h : Handling) {parts joined : List ℕ} {delta area : List ℤ} (e : o ≡ handlings h parts joined delta area) where
  pub fits_after : Fits o.store → Fits (store_of h.manager.storage)
  fits_after f = rw e at f

  pub told : (before after : Rows) (warnings : List ℕ) (r : ℕ) → Settles h before after warnings r → Told o before after parts joined delta area warnings r
  told before after warnings r s =
      rw e
      (record {
        number_is = s.tells.number_is (counts h.warnings);
        saved = s.saved;
        taken_is = s.tells.taken_is (counts h.warnings);
        ack-is = s.tells.ack-is (counts h.warnings);
        parts_are = refl;
        joined_is = refl;
        delta-is = refl;
        area-is = refl;
        warnings-are = s.warnings-are ∙ ap row (sym (warned h.answer (counts h.warnings)));
      })
