-- The keys of an area's items, judged one after the other. Assumes nothing.
use Rattle.std.specs.Prelude.{◌≡◌, true, cond, List, ℕ, ◌-◌, ◌<◌, ◌^◌, ℤ}
use Rattle.definitions.specs.Tables.{all, ends, fits, key_at}
use Rattle.table.specs.Held.{Head}

-- the key of the last of the first i items, or 2 ^ 32 if one of them does not fit
unfoldable pub last_key : List ℤ → ℕ → ℕ
last_key a i = cond (all (fits a) i) (key_at a (i - 1)) (2 ^ 32)

-- all n items end correctly, the first i of them, at least one, fit, and last is the key of the last of these
pub record Rising (a : List ℤ) (n s i last : ℕ) : Type 0 where
  pub head : Head a n s
  pub ended : all (ends a) n ≡ true
  pub some : 0 < i
  pub fit : all (fits a) i ≡ true
  pub last-is : last ≡ key_at a (i - 1)
