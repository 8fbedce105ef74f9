-- Laws of outcomes. Assumes nothing.
use Rattle.std.specs.Prelude.{◌≡◌, refl, ℕ}
use Rattle.std.proofs.Common.{sym, ap, arith}
use Rattle.definitions.specs.Warnings.{Counts, none, plus}
use Rattle.definitions.specs.Outcome.{Outcome, ok, err, return, after, ◌>>=◌}
use Rattle.laws.specs.WarningLaws.{none-plus, plus_none, plus_assoc}

-- ---- what an outcome says

module _ {A : Type 0} where
  pub ok-value : {a b : A} {v w : Counts} → ok a v ≡ ok b w → a ≡ b
  ok-value e = cc

  pub ok-warnings : {a b : A} {v w : Counts} → ok a v ≡ ok b w → v ≡ w
  ok-warnings e = cc

  pub err-number : {m n : ℕ} {v w : Counts} → ◌≡◌ {A = Outcome A} (err m v) (err n w) → m ≡ n
  err-number e = cc

  pub ok-not-err : {a : A} {n : ℕ} {v w : Counts} → ok a v ≡ err n w → ⊥
  ok-not-err e = let z : ◌≡◌ {A = ℕ} 0 1 = cc in omega arith

-- ---- steps one after the other

module _ {A : Type 0} where
  -- no earlier warning changes nothing
  pub after_none : (o : Outcome A) → after none o ≡ o
  after_none (ok a w) = ap (ok a) (none-plus w)
  after_none (err n w) = ap (err n) (none-plus w)

  pub after-after : (v w : Counts) (o : Outcome A) → after v (after w o) ≡ after (plus v w) o
  after-after v w (ok a u) = ap (ok a) (sym (plus_assoc v w u))
  after-after v w (err n u) = ap (err n) (sym (plus_assoc v w u))

  -- a value that is returned at once
  pub bind-return : (o : Outcome A) → (o >>= return) ≡ o
  bind-return (ok a w) = ap (ok a) (plus_none w)
  bind-return (err n w) = refl

module _ {A B : Type 0} where
  -- a value that is there already
  pub return-bind : (a : A) (f : A → Outcome B) → (return a >>= f) ≡ f a
  return-bind a f = after_none (f a)

  pub after-bind : (w : Counts) (o : Outcome A) (f : A → Outcome B) → (after w o >>= f) ≡ after w (o >>= f)
  after-bind w (ok a u) f = sym (after-after w u (f a))
  after-bind w (err n u) f = refl

-- steps are associative
pub bind_assoc : {A B C : Type 0} (o : Outcome A) (f : A → Outcome B) (g : B → Outcome C) → (o >>= f >>= g) ≡ (o >>= (λ a. f a >>= g))
bind_assoc (ok a w) f g = after-bind w (f a) g
bind_assoc (err n w) f g = refl
