-- What C sees of a call on a store, by the definition's step. Assumes nothing.
use Rattle.std.specs.Prelude.{◌≡◌, List, ℕ, ℤ}
use Rattle.definitions.specs.StorageCalls.{StoreStep, AddStep}
use Rattle.format.specs.Totals.{row}
use Rattle.boundary.specs.Boundary.{status, warnings_of, output}
use Rattle.boundary_states.specs.Rows.{SavedStore}

-- a step with its warnings: the store's rows before and after, its area, the counts and the number
pub record Told {A : Type 0} (step : StoreStep A) (ticks₀ : List ℤ) (counts₀ : List ℕ) (ticks : List ℤ) (counts : List ℕ) (area : List ℤ) (warnings : List ℕ) (r : ℕ) : Type 0 where
  pub number_is : r ≡ status step.answer
  pub saved : SavedStore step.store ticks₀ counts₀ ticks counts
  pub area-is : area ≡ step.area
  pub warnings-are : warnings ≡ row (warnings_of step.answer)

-- ---- adding a table

-- what a refused call leaves unchanged beside the areas: the store's rows, the tick of the base and the count of ints
pub record Beside : Type 0 where
  pub ticks : List ℤ
  pub counts : List ℕ
  pub base : ℤ
  pub count : ℕ

-- a step that adds a table: what is beside the areas before and after, both areas and the number
pub record ToldAdded (step : AddStep) (before after : Beside) (area delta : List ℤ) (r : ℕ) : Type 0 where
  pub number_is : r ≡ status step.answer
  pub saved : SavedStore step.store before.ticks before.counts after.ticks after.counts
  pub area-is : area ≡ step.area
  pub delta-is : delta ≡ step.delta
  pub base-is : after.base ≡ output (λ x. x.base) before.base step.answer
  pub count-is : after.count ≡ output (λ x. x.ints) before.count step.answer
