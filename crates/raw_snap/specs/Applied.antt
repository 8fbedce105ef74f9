-- Applying a delta to a base in lent areas, refusal by refusal, and the count that the check of a form returns. Assumes nothing.
use Rattle.std.specs.Prelude.{◌≡◌, List, [], ℕ, ◌<◌, ◌≤◌, ℤ, Result, Ok, Err, Some}
use Rattle.std.proofs.Common.{◌∙◌}
use borrow.Author.Tests.{le-leb, lt-leb}
use Rattle.definitions.specs.Refusals.{not_in_form, scratch_too_short}
use Rattle.definitions.specs.Warnings.{none}
use Rattle.definitions.specs.Outcome.{Outcome, return, refuse, after}
use Rattle.definitions.specs.Stored.{stored}
use Rattle.definitions.specs.Tables.{Table, items, count, table_of}
use Rattle.definitions.specs.TableCalls.{held, stored_table}
use Rattle.definitions.specs.Deltas.{Delta, delta_in}
use Rattle.definitions.specs.DeltaCalls.{held_delta}
use Rattle.definitions.specs.Applying.{apply_delta, applying}
use Rattle.laws.specs.OutcomeLaws.{after_none}
use Rattle.format.specs.declared.Error.{Error}
use Rattle.format.specs.Numbers.{number}
use Rattle.table.specs.Held.{Held, form_of}
use Rattle.table.specs.Forms.{formed}
use Rattle.delta_form.specs.Held.{HeldDelta}
use Rattle.raw_snap.specs.declared.checked.Areas.{Areas}

-- areas in form, with scratch that is long enough
pub record Holds (base delta : List ℤ) (scratch n k u : ℕ) : Type 0 where
  pub table : Held base n
  pub changes : HeldDelta [] delta k u
  pub room : 16384 ≤ scratch
  pub is : applying base delta scratch ≡ apply_delta (items base) (delta_in [] delta)

-- what judging the areas returns
abbrev pub Judged : List ℤ → List ℤ → ℕ → Result Areas Error → Type 0
Judged base delta scratch (Ok r) = Holds base delta scratch r.items r.deleted r.updated
Judged base delta scratch (Err e) = applying base delta scratch ≡ refuse (number e)

module _ (base delta : List ℤ) (scratch : ℕ) where
  -- the base is not in form
  pub base-refused : held base ≡ refuse not_in_form → applying base delta scratch ≡ refuse not_in_form
  unfolding applying
  base-refused e = rw e

  module _ {b : Table} (e : held base ≡ return b) where
    -- the delta is not in form
    pub delta-refused : held_delta delta ≡ refuse not_in_form → applying base delta scratch ≡ refuse not_in_form
    unfolding applying
    delta-refused f = rw (e, f)

    module _ {d : Delta} (f : held_delta delta ≡ return d) where
      -- scratch is too short
      pub scratch-refused : scratch < 16384 → applying base delta scratch ≡ refuse scratch_too_short
      unfolding applying
      scratch-refused h = rw (e, f, lt-leb 16384 scratch h)

      -- neither they nor scratch are refused
      pub is-applied : 16384 ≤ scratch → applying base delta scratch ≡ apply_delta b d
      unfolding applying
      is-applied h =
          rw (e, f, le-leb 16384 scratch h)
          (after_none (after none (after none (apply_delta b d)))
          ∙ after_none (after none (apply_delta b d))
          ∙ after_none (apply_delta b d))

-- a refused table leaves the area unchanged
pub refused-leaves : (out : List ℤ) (o : Outcome Table) (n : ℕ) → o ≡ refuse n → stored_table out o ≡ record { answer = refuse n; out = out }
unfolding stored
refused-leaves out o n e = rw e

-- the check of a form returns the count that is in the area
pub form-counted : (a : List ℤ) (n k : ℕ) → Some (record { items = n; ints = k }) ≡ form_of (table_of a) → Some (record { items = count a; ints = k }) ≡ form_of (table_of a)
form-counted a n k e = rw (← (formed a n k e).0.count-is) e
