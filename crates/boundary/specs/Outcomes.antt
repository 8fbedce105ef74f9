-- What the outputs hold, given a known outcome. Assumes nothing.
use Rattle.std.specs.Prelude.{◌≡◌, refl, Bool, true, false, cond, List, ℕ, leb, ℤ, length, Result, Ok, Err}
use Rattle.std.proofs.Common.{ap, ◌∙◌, zero-add, ne_eqb}
use Rattle.std.proofs.Math.Option.{Option, some, none}
use Rattle.definitions.specs.Areas.{lay}
use Rattle.definitions.specs.Refusals.{capacity_error}
use Rattle.definitions.specs.Warnings.{Counts}
use Rattle.definitions.specs.Outcome.{Outcome, ok, err, return, refuse, Wrote}
use Rattle.definitions.specs.Stored.{stored}
use Rattle.ints.specs.Copies.{Copied, copy_at}
use Rattle.format.specs.declared.Error.{Error}
use Rattle.format.specs.Answers.{stored_ints, stored_with}
use Rattle.format.specs.Totals.{row}
use Rattle.boundary.specs.Boundary.{status, warnings_of, output, part_into, key_or, ended, given}

module _ {A B : Type 0} (o : Outcome A) (f : A → B) where
  pub answered : {a : A} {w : Counts} → o ≡ ok a w → (before value : B) → value ≡ f a → (0 ≡ status o) × (value ≡ output f before o)
  answered e before value p = rw (e, p) (refl, refl)

  pub refused : {n : ℕ} {w : Counts} → o ≡ err n w → (r : ℕ) (before : B) → r ≡ n → (r ≡ status o) × (before ≡ output f before o)
  refused e r before p = rw (e, p) (refl, refl)

-- a count beside an area
module _ {E : Type 0} (o : Wrote ℕ E) where
  pub wrote : {a : Outcome ℕ} {out : List E} → o ≡ record { answer = a; out = out } → (r count₀ count : ℕ) → r ≡ status a → count ≡ output (λ (n : ℕ). n) count₀ a → (r ≡ status o.answer) × ((out ≡ o.out) × (count ≡ output (λ (n : ℕ). n) count₀ o.answer))
  wrote e r count₀ count p q = rw (e, p, q) (refl, (refl, refl))

-- a count and the warnings beside an area
module _ (o : Wrote ℕ ℤ) where
  pub told-read : (a : Result ℕ Error) {v : Counts} {out : List ℤ} → o ≡ record { answer = stored_with a v; out = out } → (r count₀ count : ℕ) (counts : List ℕ) → r ≡ status (stored_ints a) → count ≡ output (λ (n : ℕ). n) count₀ (stored_ints a) → counts ≡ row v → (r ≡ status o.answer) × ((out ≡ o.out) × ((count ≡ output (λ (n : ℕ). n) count₀ o.answer) × (counts ≡ row (warnings_of o.answer))))
  told-read (Ok n) e r count₀ count counts p q t = rw (e, p, q, t) (refl, (refl, (refl, refl)))
  told-read (Err n) e r count₀ count counts p q t = rw (e, p, q, t) (refl, (refl, (refl, refl)))

-- the result of a copy
abbrev stored_by : ℕ → Copied → Wrote ℕ ℤ
stored_by n c = record { answer = cond c.fits (return n) (refuse capacity_error); out = c.out }

part-stored : (out xs : List ℤ) → part_into xs out ≡ stored_by (length xs) (copy_at out 0 xs)
unfolding copy_at stored part_into
part-stored out xs = rw (zero-add (length xs)) (by-room (leb (length xs) (length out)))
  where
    by-room : (t : Bool) → cond t (record { answer = return (length xs); out = lay xs out }) (record { answer = refuse capacity_error; out = out }) ≡ stored_by (length xs) (cond t (record { fits = true; out = lay xs out }) (record { fits = false; out = out }))
    by-room true = refl
    by-room false = refl

-- a part that was copied
pub copied : (out xs : List ℤ) {b : Bool} {now : List ℤ} → copy_at out 0 xs ≡ record { fits = b; out = now } → part_into xs out ≡ record { answer = cond b (return (length xs)) (refuse capacity_error); out = now }
copied out xs e = part-stored out xs ∙ ap (stored_by (length xs)) e

-- the same for an equal part
pub moved : (x y out : List ℤ) → x ≡ y → (r count₀ count : ℕ) (now : List ℤ) → (r ≡ status (part_into x out).answer) × ((now ≡ (part_into x out).out) × (count ≡ output (λ (n : ℕ). n) count₀ (part_into x out).answer)) → (r ≡ status (part_into y out).answer) × ((now ≡ (part_into y out).out) × (count ≡ output (λ (n : ℕ). n) count₀ (part_into y out).answer))
moved x y out e r count₀ count now p = rw e at p

-- ---- a place of a walk

module _ (o : Outcome (Option ℤ)) where
  pub walk-found : {x : Option ℤ} {w : Counts} → o ≡ ok x w → (key₀ key : ℤ) (end : ℕ) → key ≡ key_or key₀ x → (0 ≡ status o) × ((key ≡ output (key_or key₀) key₀ o) × (ended x ≡ output ended end o))
  walk-found e key₀ key end p = rw (e, p) (refl, (refl, refl))

  pub walk_refused : {n : ℕ} {w : Counts} → o ≡ err n w → (r : ℕ) (key : ℤ) (end : ℕ) → r ≡ n → (r ≡ status o) × ((key ≡ output (key_or key) key o) × (end ≡ output ended end o))
  walk_refused e r key end p = rw (e, p) (refl, (refl, refl))

-- ---- a value that is present or absent

module _ {A : Type 0} where
  pub not-given : (has : ℕ) (x : A) → has ≡ 0 → given has x ≡ none
  not-given has x e = rw e refl

  pub is-given : (has : ℕ) (x : A) → (has ≡ 0 → ⊥) → given has x ≡ some x
  is-given has x f = rw (ne_eqb has 0 f) refl
