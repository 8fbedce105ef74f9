-- A place that advances with rising keys. Assumes nothing.
use Prim.Native.Nat.{ℕ, ◌+◌, ◌<◌, ◌≤◌}
use mathlib.Core.Path.{◌≡◌}
use mathlib.Core.List.{List}
use native.Mathlib.Omega.{arith}
use lib.IntN.{ℤ}
use Rattle.definitions.specs.Tables.{key_at, count}
use Rattle.laws.specs.TableShape.{keys-rise}
use Rattle.laws.specs.TableFind.{Place}
use Rattle.table.specs.Held.{Held}

-- the first c of n keys of a are less than those of b from the i-th on
pub record Along (a : List ℤ) (n c : ℕ) (b : List ℤ) (i : ℕ) : Type 0 where
  pub within : c ≤ n
  pub passed : (m j : ℕ) → i ≤ m → m < count b → j < c → key_at a j < key_at b m

pub along-start : (a : List ℤ) (n : ℕ) (b : List ℤ) (i : ℕ) → Along a n 0 b i
along-start a n b i = record { within = omega arith; passed = λ m j o r s. absurd (omega arith) }

module _ (a : List ℤ) (n : ℕ) (ha : Held a n) (b : List ℤ) (nb : ℕ) (hb : Held b nb) (c i : ℕ) (l : i < nb) where
  -- the next search starts at the place of the i-th key
  pub along-next : Place a (key_at b i) c → Along a n c b (i + 1)
  along-next q =
      record {
        within = omega (arith, q.within, ha.count-is);
        passed = λ m j o r s. omega (arith, q.below j s, keys-rise b hb.shape i m (omega arith) r);
      }
