-- What a binary search requires and finds. Assumes nothing.
use Rattle.std.specs.Prelude.{◌≡◌, Bool, true, false, ℕ, ◌<◌, ◌≤◌}

-- the results of a test at the numbers below n are those of p
pub record Tells (post : ℕ → Bool → Type 0) (p : ℕ → Bool) (n : ℕ) : Type 0 where
  pub told : (i : ℕ) (b : Bool) → i < n → post i b → b ≡ p i

-- p holds at each number before one below n at which it holds
pub record Falls (p : ℕ → Bool) (n : ℕ) : Type 0 where
  pub before : (i j : ℕ) → i ≤ j → j < n → p j ≡ true → p i ≡ true

-- p holds at the numbers below r, and at none of the others below n
pub record Parts (p : ℕ → Bool) (n r : ℕ) : Type 0 where
  pub holds : (i : ℕ) → i < r → p i ≡ true
  pub fails : (i : ℕ) → r ≤ i → i < n → p i ≡ false
