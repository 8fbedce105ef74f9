-- The result of storing the differences or the sums of one item. Assumes nothing.
use Prim.Native.Nat.{ℕ, ◌<◌, ◌≤◌}
use mathlib.Core.Path.{◌≡◌}
use mathlib.Core.Bool.{Bool, true, false}
use mathlib.Core.List.{List}
use native.Mathlib.Omega.{arith}
use borrow.Author.Tests.{le-leb, lt-leb}
use lib.IntN.{ℤ}
use lib.ListN.{length}
use Rattle.definitions.specs.Areas.{lay_at}
use Rattle.definitions.specs.Refusals.{delta_differing_sizes, capacity_error}
use Rattle.definitions.specs.Outcome.{Outcome, return, refuse, require, ◌>>◌}
use Rattle.definitions.specs.Stored.{stored}

module _ (out : List ℤ) (alike : Bool) (xs : List ℤ) where
  -- storing the ints xs gives o and l; 10 if the lengths differ
  abbrev Comes : Outcome ℕ → List ℤ → Type 0
  Comes o l = stored out (require alike delta_differing_sizes >> return xs) ≡ record { answer = o; out = l }

  pub refused-10 : alike ≡ false → Comes (refuse delta_differing_sizes) out
  unfolding stored
  refused-10 e = rw e

  pub refused-40 : alike ≡ true → length out < length xs → Comes (refuse capacity_error) out
  unfolding stored
  refused-40 e h = rw (e, lt-leb (length xs) (length out) h)

  pub done : alike ≡ true → (n : ℕ) (l : List ℤ) → length xs ≡ n → n ≤ length out → l ≡ lay_at 0 xs out → Comes (return n) l
  unfolding stored
  done e n l k h q = rw (e, le-leb (length xs) (length out) (omega arith), k, q)
