-- What C sees of an item's data, from the part that was handed out and the answer whether there is one. Assumes nothing.
use Rattle.std.specs.Prelude.{◌≡◌, refl, Bool, cond, List, ℕ, leb, ℤ, length}
use Rattle.std.proofs.Common.{sym, ap, ◌∙◌, arith}
use Rattle.std.proofs.Math.Bool.{true, false}
use Rattle.std.proofs.Math.Option.{Option}
use Rattle.definitions.specs.Areas.{lay}
use Rattle.definitions.specs.Refusals.{capacity_error}
use Rattle.definitions.specs.Warnings as Warnings
use Rattle.definitions.specs.Warnings.{Counts, plus}
use Rattle.definitions.specs.Stored.{stored}
use Rattle.definitions.specs.Outcome.{Outcome, ok, err, return, Wrote, ◌>>=◌}
use Rattle.definitions.specs.TableCalls.{part_of, or_empty}
use Rattle.boundary.specs.Boundary.{status, output, part_into, item_into}

-- the number, the area and the count of ints afterwards
abbrev pub Written : Wrote ℕ ℤ → (r count₀ count : ℕ) (now : List ℤ) → Type 0
Written o r count₀ count now =
    (r ≡ status o.answer) × ((now ≡ o.out) × (count ≡ output (λ (n : ℕ). n) count₀ o.answer))

-- whether a call was not refused
module _ {A : Type 0} where
  abbrev pub is_ok : Outcome A → Bool
  is_ok (ok a w) = true
  is_ok (err n w) = false

module _ (out : List ℤ) (r count₀ count : ℕ) (now : List ℤ) where
  -- they are the same whatever was counted
  counted : (xs : List ℤ) (v w : Counts) → Written (stored out (ok xs v)) r count₀ count now → Written (stored out (ok xs w)) r count₀ count now
  unfolding stored
  counted xs v w p = by (leb (length xs) (length out)) p
    where
      by : (b : Bool) → Written (cond b (record { answer = ok (length xs) v; out = lay xs out }) (record { answer = err capacity_error v; out = out })) r count₀ count now → Written (cond b (record { answer = ok (length xs) w; out = lay xs out }) (record { answer = err capacity_error w; out = out })) r count₀ count now
      by true p = p
      by false p = p

  -- an item was looked for
  looked : (v : Option (List ℤ)) (w : Counts) → Written (part_into (or_empty v) out) r count₀ count now → Written (item_into (ok v w) out) r count₀ count now
  unfolding part_into item_into
  looked v w p = counted (or_empty v) Warnings.none (plus w Warnings.none) p

  module _ (x : List ℤ) (o : Outcome (Option (List ℤ))) (e : x ≡ part_of o) (p : Written (part_into x out) r count₀ count now) where
    -- its part is not empty
    pub item-found : (length x ≡ 0 → ⊥) → Written (item_into o out) r count₀ count now
    item-found f = go o e
      where
        go : (o : Outcome (Option (List ℤ))) → x ≡ part_of o → Written (item_into o out) r count₀ count now
        go (ok v w) e = looked v w (rw e at p)
        go (err n w) e = absurd (f (ap length e))

    -- it was looked for
    pub item-looked : is_ok o ≡ true → Written (item_into o out) r count₀ count now
    item-looked q = go o e q
      where
        go : (o : Outcome (Option (List ℤ))) → x ≡ part_of o → is_ok o ≡ true → Written (item_into o out) r count₀ count now
        go (ok v w) e q = looked v w (rw e at p)
        go (err n w) e q = let z : ◌≡◌ {A = ℕ} 0 1 = cc in absurd (omega arith)

-- it was not looked for
module _ (out : List ℤ) (r count₀ : ℕ) where
  refused : (n : ℕ) (w : Counts) → r ≡ n → Written (item_into (err n w) out) r count₀ count₀ out
  unfolding item_into stored
  refused n w e = (e, (refl, refl))

  pub item_refused : (o : Outcome (Option (List ℤ))) → is_ok o ≡ false → r ≡ status o → Written (item_into o out) r count₀ count₀ out
  item_refused (ok v w) q e = let z : ◌≡◌ {A = ℕ} 0 1 = cc in absurd (omega arith)
  item_refused (err n w) q e = refused n w e

-- ---- what a question about an area tells of another one

module _ {A B C : Type 0} (o : Outcome A) (f : A → B) (g : A → C) where
  pub ok-told : {x : Outcome B} → (o >>= λ a. return (f a)) ≡ x → is_ok (o >>= λ a. return (g a)) ≡ is_ok x
  ok-told e = go o ∙ ap is_ok e
    where
      go : (o : Outcome A) → is_ok (o >>= λ a. return (g a)) ≡ is_ok (o >>= λ a. return (f a))
      go (ok a w) = refl
      go (err n w) = refl

  pub number-told : {x : Outcome B} → (o >>= λ a. return (f a)) ≡ x → status x ≡ status (o >>= λ a. return (g a))
  number-told e = sym (ap status e) ∙ go o
    where
      go : (o : Outcome A) → status (o >>= λ a. return (f a)) ≡ status (o >>= λ a. return (g a))
      go (ok a w) = refl
      go (err n w) = refl

-- of itself
pub ok-asked : {A B : Type 0} (o : Outcome A) (f : A → B) {x : Outcome B} → (o >>= λ a. return (f a)) ≡ x → is_ok o ≡ is_ok x
ok-asked {A} {B} o f e = go o ∙ ap is_ok e
  where
    go : (o : Outcome A) → is_ok o ≡ is_ok (o >>= λ a. return (f a))
    go (ok a w) = refl
    go (err n w) = refl

pub number-asked : {A B : Type 0} (o : Outcome A) (f : A → B) {x : Outcome B} → (o >>= λ a. return (f a)) ≡ x → status x ≡ status o
number-asked {A} {B} o f e = sym (ap status e) ∙ go o
  where
    go : (o : Outcome A) → status (o >>= λ a. return (f a)) ≡ status o
    go (ok a w) = refl
    go (err n w) = refl
