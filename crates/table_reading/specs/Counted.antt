-- The result of storing a table whose reading counted warnings. Assumes nothing.
use Rattle.std.specs.Prelude.{◌≡◌, refl, Result, Ok, Err, Bool, true, false, List, ℕ, ℤ}
use Rattle.std.proofs.Common.{ap, ◌∙◌}
use Rattle.definitions.specs.Warnings.{Counts, ExcessSnapData, plus}
use Rattle.definitions.specs.Outcome.{Outcome, return, after, warn_if, ◌>>=◌, ◌>>◌, Wrote}
use Rattle.definitions.specs.Stored.{stored}
use Rattle.definitions.specs.Tables.{Table, written}
use Rattle.definitions.specs.TableCalls.{stored_table}
use Rattle.laws.specs.OutcomeLaws.{after-bind}
use Rattle.laws.specs.StoredLaws.{counting, stored-after}
use Rattle.format.specs.Answers.{stored_with}
use Rattle.format.specs.Sources.{excess}
use Rattle.format.specs.declared.Error.{Error}

pub table-after : (out : List ℤ) (w : Counts) (o : Outcome Table) → stored_table out (after w o) ≡ counting w (stored_table out o)
table-after out w o =
    ap (stored out) (after-bind w o (λ t. return (written t)))
    ∙ stored-after out w (o >>= λ t. return (written t))

-- the warning that more follows
pub warned : (x : Bool) (o : Outcome Table) → (warn_if x ExcessSnapData >> o) ≡ after (excess x) o
warned true o = refl
warned false o = refl

-- an answer that was given with its warnings, with earlier ones
after_read : (r : Result ℕ Error) (v u : Counts) → after v (stored_with r u) ≡ stored_with r (plus v u)
after_read (Ok n) v u = refl
after_read (Err e) v u = refl

-- the same for a table that was stored
pub told-after : (v u : Counts) (o : Outcome Table) (out last : List ℤ) (r : Result ℕ Error) → stored_table out o ≡ record { answer = stored_with r u; out = last } → stored_table out (after v o) ≡ record { answer = stored_with r (plus v u); out = last }
told-after v u o out last r e =
    table-after out v o
    ∙ (ap (counting v) e ∙ ap (λ (b : Outcome ℕ). record { answer = b; out = last }) (after_read r v u))

-- one answer for another
pub answered : {a b : Outcome ℕ} (last : List ℤ) → a ≡ b → ◌≡◌ {A = Wrote ℕ ℤ} (record { answer = a; out = last }) (record { answer = b; out = last })
answered last e = ap (λ (o : Outcome ℕ). record { answer = o; out = last }) e
