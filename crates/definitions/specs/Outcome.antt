-- The outcome of a call: a value or a refusal, each with the warnings counted so far. Assumes nothing.
use Rattle.std.specs.Prelude.{Bool, cond, List, ℕ}
use Rattle.definitions.specs.Warnings.{Warning, Counts, none, one, plus}

pub data Outcome (A : Type 0) : Type 0 where
  ok : A → Counts → Outcome A
  err : ℕ → Counts → Outcome A

module _ {A : Type 0} where
  -- a value, without a warning
  abbrev pub return : A → Outcome A
  return a = ok a none

  -- a refusal, without a warning
  abbrev pub refuse : ℕ → Outcome A
  refuse n = err n none

  -- an outcome with earlier warnings added
  abbrev pub after : Counts → Outcome A → Outcome A
  after w (ok a v) = ok a (plus w v)
  after w (err n v) = err n (plus w v)

infixl 10 ◌>>=◌ ◌>>◌
-- one step and then the next, which takes the first one's value; a refusal ends both
abbrev pub ◌>>=◌ : {A B : Type 0} → Outcome A → (A → Outcome B) → Outcome B
ok a w >>= f = after w (f a)
err n w >>= f = err n w

-- one step and then the next
abbrev pub ◌>>◌ : {A B : Type 0} → Outcome A → Outcome B → Outcome B
ok a w >> o = after w o
err n w >> o = err n w

-- a condition without which the call is refused
abbrev pub require : Bool → ℕ → Outcome (Unit {0})
require b n = cond b (return tt) (refuse n)

-- these warnings
abbrev pub warn : Counts → Outcome (Unit {0})
warn w = ok tt w

-- a warning of a kind, if the test holds
abbrev pub warn_if : Bool → Warning → Outcome (Unit {0})
warn_if b k = cond b (warn (one k)) (warn none)

-- the outcome of a call, and what the area that it writes holds afterwards
pub record Wrote (A E : Type 0) : Type 0 where
  pub answer : Outcome A
  pub out : List E
