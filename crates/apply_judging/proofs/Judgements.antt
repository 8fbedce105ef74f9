-- Judgements, one for each answer of the code. Assumes nothing.
use Prim.Native.Nat.{ℕ, ◌+◌, ◌<◌, ◌≤◌}
use mathlib.Core.Path.{◌≡◌}
use mathlib.Core.Bool.{Bool, true, false}
use mathlib.Core.List.{List}
use native.Mathlib.Omega.{arith}
use lib.ListN.{length}
use borrow.Author.Tests.{lt-ltb, le-ltb, lt-leb}
use Rattle.definitions.specs.Refusals.{too_long_snap, too_many_items}
use Rattle.definitions.specs.Tables.{Item, Table, find, is_some}
use Rattle.definitions.specs.DeltaMaking.{agree}
use Rattle.laws.specs.ApplyJudging.{Judged, bad, good, kept_of, judge_length, judge_new, judge_update}

module _ (same : Bool) (n w : ℕ) where
  pub as_long : same ≡ true → good n w ≡ judge_length same n w
  as_long e = rw e

module _ (same : Bool) (size n w : ℕ) where
  pub too_many : 1023 < n → bad too_many_items ≡ judge_new same size n w
  too_many l = rw (le-ltb n 1024 l)

  pub too_long : n ≤ 1023 → 16384 < w + (2 + size) → bad too_long_snap ≡ judge_new same size n w
  too_long l m = rw (lt-ltb n 1024 (omega arith), lt-leb (w + (2 + size)) 16384 m)

-- an update, by whether its key is kept
module _ (g : List ℕ) (b : Table) (u : Item) (n w : ℕ) (same : Bool) (a : same ≡ agree (find u.key b) u.values) (j : Judged) where
  pub update-kept : is_some (kept_of g b u.key) ≡ true → j ≡ judge_length same n w → j ≡ judge_update g b u n w
  unfolding judge_update
  update-kept k e = rw (k, ← a) e

  pub update-new : (size : ℕ) → is_some (kept_of g b u.key) ≡ false → size ≡ length u.values → j ≡ judge_new same size n w → j ≡ judge_update g b u n w
  unfolding judge_update
  update-new size k s e = rw (k, ← a, ← s) e
