-- Making the delta between the tables of two areas: the call, by what the areas hold. Assumes nothing.
use Rattle.std.specs.Prelude.{◌≡◌, refl, ◌⊎◌, List, ℤ}
use Rattle.std.proofs.Common.{ap, ◌∙◌}
use Rattle.std.proofs.Math.Logic.{⊎_elim}
use Rattle.std.proofs.Math.Option.{Option, some, none}
use Rattle.definitions.specs.Refusals.{not_in_form}
use Rattle.definitions.specs.Warnings.{none as no-warning}
use Rattle.definitions.specs.Outcome.{Outcome, return, refuse, after, ◌>>=◌}
use Rattle.definitions.specs.Stored.{stored}
use Rattle.definitions.specs.Tables.{Table, table_of}
use Rattle.definitions.specs.TableCalls.{held}
use Rattle.definitions.specs.Deltas.{written_delta}
use Rattle.definitions.specs.DeltaMaking.{create_delta}
use Rattle.definitions.specs.DeltaCalls.{create_call}
use Rattle.laws.specs.OutcomeLaws.{after_none}

-- the written form of the delta from a base to a target
abbrev pub created_ints : Table → Table → Outcome (List ℤ)
created_ints b t = create_delta b t >>= λ d. return (written_delta d)

module _ (base target out : List ℤ) where
  -- without two tables all is left
  pub create-47 : (table_of base ≡ none) ⊎ (table_of target ≡ none) → create_call base target out ≡ record { answer = refuse not_in_form; out = out }
  unfolding held stored
  create-47 = ⊎_elim (λ (e : table_of base ≡ none). rw e) (λ (e : table_of target ≡ none). go e (table_of base) refl)
    where
      go : table_of target ≡ none → (o : Option Table) → table_of base ≡ o → create_call base target out ≡ record { answer = refuse not_in_form; out = out }
      go e none f = rw f
      go e (some b) f = rw (f, e)

  -- with both the delta is laid into the area
  pub create-held : (b t : Table) → table_of base ≡ some b → table_of target ≡ some t → create_call base target out ≡ stored out (created_ints b t)
  unfolding held
  create-held b t e f = rw (e, f) (ap (stored out) (after_none (after no-warning (created_ints b t)) ∙ after_none (created_ints b t)))
