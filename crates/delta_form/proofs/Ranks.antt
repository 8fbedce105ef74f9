-- The walk along the deleted keys, from a place on. Assumes nothing.
use Prim.Native.Nat.{ℕ, ◌+◌, ◌<◌, ◌≤◌}
use mathlib.Core.Path.{◌≡◌}
use mathlib.Core.Bool.{◌&&◌}
use mathlib.Core.List.{List}
use mathlib.Core.Logic.{⊎_elim}
use native.Mathlib.Omega.{arith}
use lib.IntN.{ℤ}
use lib.Dec.{ltb, eqb}
use borrow.Author.Tests.{lt-ltb}
use Rattle.definitions.specs.Deltas.{rank, deleted_at}
use Rattle.laws.specs.Tests.{below}
use Rattle.delta_form.specs.Reached.{Under}

module _ (a : List ℤ) where
  -- one more is passed
  pub under_more : (i low : ℕ) → Under a i low → rank (deleted_at a i) < low → Under a (i + 1) low
  under_more i low u l =
      record {
        below = λ j m.
            ⊎_elim
            (λ (t : j < i). u.below j t)
            (λ (t : i ≤ j). let e : j ≡ i = omega arith in rw e l)
            (below j i);
      }

  module _ (k i key : ℕ) where
    pub deleted-tested : (d : ℕ) → i < k → d ≡ deleted_at a i → eqb d key ≡ (ltb i k && eqb (deleted_at a i) key)
    deleted-tested d l e = rw (lt-ltb i k l, e)
