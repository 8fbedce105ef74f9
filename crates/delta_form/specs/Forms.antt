-- What a known size as a count and the answer of the form test mean. Assumes nothing.
use Rattle.std.specs.Prelude.{ℕ, ◌+◌, ◌<◌, ◌≤◌, ◌^◌, ◌≡◌, refl, Bool, true, false, ℤ, Some, None}
use Rattle.std.proofs.Common.{arith, sym, ap, ◌∙◌, lt-ltb, le-ltb}
use mathlib.Core.List.{List, []}
use Rattle.std.proofs.Math.Option.{some, none}
use Rattle.definitions.specs.Refusals.{not_in_form}
use Rattle.definitions.specs.Outcome.{return, refuse}
use Rattle.definitions.specs.Deltas.{known_size, num_deleted, num_updated, delta_in, delta_form, delta_of}
use Rattle.definitions.specs.DeltaCalls.{held_delta}
use Rattle.laws.specs.DeltaShape.{updates_end, DeltaShape, shape-form, not-delta}
use Rattle.delta_form.specs.Held.{size_from, form_of, HeldDelta, held}
use Rattle.delta_form.specs.declared.checked.DeltaForm.{DeltaForm}

-- ---- known sizes

-- the count r is the known size of the type t of some update
module _ (sizes : List ℤ) {t type : ℕ} (r : ℕ) (e : t ≡ type) (k : known_size sizes t ≡ size_from r) where
  pub is_known : r < 2 ^ 32 → known_size sizes type ≡ some r
  is_known l = ap (known_size sizes) (sym e) ∙ (k ∙ rw (lt-ltb r (2 ^ 32) l))

  pub is-unknown : 2 ^ 32 ≤ r → known_size sizes type ≡ none
  is-unknown l = ap (known_size sizes) (sym e) ∙ (k ∙ rw (le-ltb r (2 ^ 32) l))

-- ---- the form test

-- the numbers of a delta
abbrev pub form_with : ℕ → ℕ → ℕ → DeltaForm
form_with k u n = record { deleted = k; updated = u; ints = n }

module _ (sizes a : List ℤ) where
  pub bad : (DeltaShape sizes a → ⊥) → None ≡ form_of sizes a
  bad h = rw (not-delta sizes a h)

  pub good : (k u n : ℕ) → DeltaShape sizes a → k ≡ num_deleted a → u ≡ num_updated a → n ≡ updates_end sizes a (3 + k) u → Some (form_with k u n) ≡ form_of sizes a
  good k u n h p q r = rw (shape-form sizes a h, r, p, q)

  -- what the answer of `form` means
  pub formed : (k u n : ℕ) → Some (form_with k u n) ≡ form_of sizes a → HeldDelta sizes a k u × (n ≡ updates_end sizes a (3 + num_deleted a) (num_updated a))
  formed k u n e = go (delta_form sizes a) refl
    where
      go : (b : Bool) → delta_form sizes a ≡ b → HeldDelta sizes a k u × (n ≡ updates_end sizes a (3 + num_deleted a) (num_updated a))
      go true q =
          let s : Some (form_with k u n) ≡ Some (form_with (num_deleted a) (num_updated a) (updates_end sizes a (3 + num_deleted a) (num_updated a))) = rw q at e in
          let d : form_with k u n ≡ form_with (num_deleted a) (num_updated a) (updates_end sizes a (3 + num_deleted a) (num_updated a)) = cc in
          let dk : k ≡ num_deleted a = ap (λ (f : DeltaForm). f.deleted) d in
          let du : u ≡ num_updated a = ap (λ (f : DeltaForm). f.updated) d in
          let dn : n ≡ updates_end sizes a (3 + num_deleted a) (num_updated a) = ap (λ (f : DeltaForm). f.ints) d in
          (held sizes a k u dk du q, dn)
      go false q =
          let d : Some (form_with k u n) ≡ None = rw q at e in
          let z : ◌≡◌ {A = ℕ} 0 1 = cc in absurd (omega arith)

  pub unformed : None ≡ form_of sizes a → delta_form sizes a ≡ false
  unformed e = go (delta_form sizes a) refl
    where
      go : (b : Bool) → delta_form sizes a ≡ b → delta_form sizes a ≡ false
      go true q =
          let d : None ≡ Some (form_with (num_deleted a) (num_updated a) (updates_end sizes a (3 + num_deleted a) (num_updated a))) = rw q at e in
          let z : ◌≡◌ {A = ℕ} 0 1 = cc in absurd (omega arith)
      go false q = q

-- ---- what the form test says about an area

module _ (a : List ℤ) where
  -- it holds no delta
  pub not-held : None ≡ form_of [] a → held_delta a ≡ refuse not_in_form
  unfolding held_delta delta_of
  not-held e = rw (unformed [] a e)

  -- it holds one
  pub is_held : (k u : ℕ) → HeldDelta [] a k u → held_delta a ≡ return (delta_in [] a)
  unfolding held_delta delta_of
  is_held k u h = rw h.in-form
