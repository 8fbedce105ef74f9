-- A store in its rows, and one that is emptied: its count fits, and its rows are determined. Assumes nothing.
use Rattle.std.specs.Prelude.{◌≡◌, List, ℕ, ℤ}
use Rattle.std.proofs.Common.{sym, ap, ◌∙◌, arith}
use Rattle.definitions.specs.Outcome.{return}
use Rattle.definitions.specs.Storage.{Store, beside, fresh_storage}
use Rattle.definitions.specs.StorageCalls.{StoreStep, reset_call}
use Rattle.boundary_states.specs.Rows.{store_ticks, store_counts}
use Rattle.boundary_states.specs.Few.{Fits}

pub fits-new : {s : Store} → s ≡ beside fresh_storage → Fits s
fits-new e = rw e (omega arith)

module _ (s : Store) {t : Store} (area : List ℤ) {x : List ℤ} (e : reset_call s area ≡ record { answer = return tt; store = t; area = x }) where
  pub fits-reset : Fits t
  fits-reset = rw (sym (ap (λ (o : StoreStep (Unit {0})). o.store) e)) (omega arith)

  pub reset-told : {h : Store} {ticks : List ℤ} {counts : List ℕ} → s ≡ h → ticks ≡ store_ticks t → counts ≡ store_counts t → (ticks ≡ store_ticks (reset_call h area).store) × ((counts ≡ store_counts (reset_call h area).store) × (x ≡ (reset_call h area).area))
  reset-told p q c =
      let m = rw p at e in
      let k = sym (ap (λ (o : StoreStep (Unit {0})). o.store) m) in
      (q ∙ ap store_ticks k, (c ∙ ap store_counts k, sym (ap (λ (o : StoreStep (Unit {0})). o.area) m)))
