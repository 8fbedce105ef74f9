-- Copying into an area. Assumes nothing.
use Rattle.std.specs.Prelude.{◌≡◌, ℕ, ◌+◌, ◌-◌, ◌≤◌, Bool, true, false, cond, List, length, take, drop, ℤ, nat_le, refl}
use Rattle.std.proofs.Common.{sym, ap, zero-add, le-leb}
use Rattle.definitions.specs.Areas.{lay, lay_at, fits_at}
use Rattle.definitions.specs.Refusals.{capacity_error}
use Rattle.definitions.specs.Outcome.{return, refuse, Wrote}
use Rattle.definitions.specs.Stored.{stored}

-- whether all of it fits, and the area afterwards
pub record Copied : Type 0 where
  pub fits : Bool
  pub out : List ℤ

-- copies the ints to a place if they fit, else copies nothing
unfoldable pub copy_at : List ℤ → ℕ → List ℤ → Copied
copy_at out at xs =
    cond (fits_at at xs out)
    (record { fits = true; out = lay_at at xs out })
    (record { fits = false; out = out })

-- the area after a copy that fits
pub copied : (out : List ℤ) (at : ℕ) (xs ys : List ℤ) (r : Bool) (o : List ℤ) → copy_at out at xs ≡ record { fits = r; out = o } → xs ≡ ys → at + length ys ≤ length out → o ≡ lay_at at ys out
unfolding copy_at
copied out at xs ys r o e f h = sym (ap (λ (k : Copied). k.out) (rw (f, le-leb (at + length ys) (length out) h) at e))

-- ---- copying ints to the front of an area stores them there

-- the result of storing n ints by a copy
abbrev pub stored_by : ℕ → Copied → Wrote ℕ ℤ
stored_by n c = record { answer = cond c.fits (return n) (refuse capacity_error); out = c.out }

pub copy_stored : (out xs : List ℤ) → stored out (return xs) ≡ stored_by (length xs) (copy_at out 0 xs)
unfolding copy_at stored
copy_stored out xs = rw (zero-add (length xs)) (by-room (nat_le (length xs) (length out)))
  where
    by-room : (b : Bool) → cond b (record { answer = return (length xs); out = lay xs out }) (record { answer = refuse capacity_error; out = out }) ≡ stored_by (length xs) (cond b (record { fits = true; out = lay xs out }) (record { fits = false; out = out }))
    by-room true = refl
    by-room false = refl

-- the ints between two places moved up; what they overwrite is lost
unfoldable pub shifted : List ℤ → ℕ → ℕ → ℕ → List ℤ
shifted a from to by = lay_at (from + by) (take (to - from) (drop from a)) a
