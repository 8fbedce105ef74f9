-- `ints::copy_into` meets its contract: by the room. Assumes nothing.
use Rattle.std.proofs.Common.{◌≡◌, ℕ, ◌+◌, ◌<◌, ◌≤◌, true, false, List, length, ℤ, arith, le-leb}
use borrow.Author.Tests.{lt-leb}
use Rattle.definitions.specs.Areas.{lay_at}
use Rattle.ints.specs.Copies.{copy_at}
use Rattle.ints.proofs.Laid.{laid}
use Rattle.ints.proofs.copy_into.Goals as goal

module _ (out : List ℤ) (at : ℕ) (xs : List ℤ) where
  -- it does not fit
  full : length out < at + length xs → copy_at out at xs ≡ record { fits = false; out = out }
  unfolding copy_at
  full h = rw (lt-leb (at + length xs) (length out) h)

  -- all of it is laid
  done : (now : List ℤ) → at + length xs ≤ length out → now ≡ lay_at at xs out → copy_at out at xs ≡ record { fits = true; out = now }
  unfolding copy_at
  done now h e = rw (le-leb (at + length xs) (length out) h, e)

pub returns-then-out-at : goal.returns-then-out-at
returns-then-out-at c = let a = c.args in full a.out.now a.at a.xs.now (omega arith)

pub returns-then-out-at-2 : goal.returns-then-out-at-2
returns-then-out-at-2 c = let a = c.args in full a.out.now a.at a.xs.now (omega arith)

pub returns : goal.returns
returns c =
    let a = c.args in
    let fits : a.at + length a.xs.now ≤ length a.out.now = omega arith in
    done a.out.now a.at a.xs.now _ fits (laid a.at a.xs.now _ a.out.now fits c.copy_from_slice.ensures.after)
