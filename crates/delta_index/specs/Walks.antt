-- Entries of an index, one by one. Assumes nothing.
use Rattle.std.specs.Prelude.{◌≡◌, [], ◌∷◌, ℕ, ◌+◌, ◌≤◌, ◌<◌, drop}
use Rattle.std.proofs.Common.{add-one, arith, drop_of_length-le, drop-cons}
use Rattle.definitions.specs.Tables.{list}
use Rattle.laws.specs.ListLaws.{get_or-list}
use Rattle.laws.specs.TableForm.{length-list}

-- the next of n entries, and those after it
pub next-entry : (f : ℕ → ℕ) (n i : ℕ) → i < n → drop i (list f n) ≡ f i ∷ drop (i + 1) (list f n)
next-entry f n i h =
    rw (drop-cons (list f n) i 0 (omega (arith, length-list f n)), get_or-list f n i 0 h, add-one i)

-- none is left
pub none_left : (f : ℕ → ℕ) (n i : ℕ) → n ≤ i → drop i (list f n) ≡ []
none_left f n i h = drop_of_length-le (list f n) {i = i} (omega (arith, length-list f n))
