-- An outcome as C sees it: a number, and outputs through pointers. Assumes nothing.
use Rattle.std.specs.Prelude.{List, Bool, not, cond, ℕ, eqb, ℤ, Result, Ok, Err}
use Rattle.std.proofs.Math.Option.{Option, some, none}
use Rattle.definitions.specs.Warnings.{Counts}
use Rattle.definitions.specs.Stored.{stored}
use Rattle.definitions.specs.Outcome.{Outcome, ok, err, return, Wrote, ◌>>=◌}
use Rattle.definitions.specs.TableCalls.{or_empty}
use Rattle.format.specs.Numbers.{number}
use Rattle.format.specs.declared.Error.{Error}

-- 1 for true, 0 for false
abbrev pub flag : Bool → ℕ
flag b = cond b 1 0

module _ {A : Type 0} where
  -- 0, or the refusal's number
  abbrev pub status : Outcome A → ℕ
  status (ok a w) = 0
  status (err n w) = n

  -- the warnings counted, refused or not
  abbrev pub warnings_of : Outcome A → Counts
  warnings_of (ok a w) = w
  warnings_of (err n w) = w

  -- an output: a part of the value, or its previous content if the call was refused
  abbrev pub output : {B : Type 0} → (A → B) → B → Outcome A → B
  output f before (ok a w) = f a
  output f before (err n w) = before

  -- the number of an answer of the code: 0, or the refusal's
  abbrev pub refusal : Result A Error → ℕ
  refusal (Ok a) = 0
  refusal (Err e) = number e

  -- its value, or the previous content of the output if the call was refused
  abbrev pub value_or : A → Result A Error → A
  value_or before (Ok a) = a
  value_or before (Err e) = before

-- a part of an area written over the front of another
unfoldable pub part_into : List ℤ → List ℤ → Wrote ℕ ℤ
part_into part out = stored out (return part)

-- the data of an item laid over the front of an area, nothing if there is no such item; or why it was not looked for
unfoldable pub item_into : Outcome (Option (List ℤ)) → List ℤ → Wrote ℕ ℤ
item_into o out = stored out (o >>= λ v. return (or_empty v))

-- the key or the tick at a place of a walk, or the previous content at its end
abbrev pub key_or : ℤ → Option ℤ → ℤ
key_or before (some k) = k
key_or before none = before

-- 1 at the end of a walk, else 0
abbrev pub ended : Option ℤ → ℕ
ended (some k) = 0
ended none = 1

-- a value that is present if a flag is not 0
module _ {A : Type 0} where
  abbrev pub given : ℕ → A → Option A
  given n x = cond (not (eqb n 0)) (some x) none
