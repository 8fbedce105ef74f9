-- `checked::search::first_not` meets its contract. The loop's invariant: the test holds below lo and fails from hi on. Assumes nothing.
use Rattle.std.specs.Prelude.{◌≡◌, Bool, true, false, ℕ, ◌-◌, ◌<◌, ◌≤◌}
use Rattle.table.specs.Searching.{Tells, Falls}
use Rattle.table.proofs.checked.search.first_not.Given as goal

abbrev pub invariant-loop-lo : goal.invariant-loop-lo
invariant-loop-lo g l =
    (l.lo ≤ l.hi) × (l.hi ≤ l.n) × ((p : ℕ → Bool) → Tells (goal.F-post g l.below) p l.n → Falls p l.n → ((i : ℕ) → i < l.lo → p i ≡ true) × ((i : ℕ) → l.hi ≤ i → i < l.n → p i ≡ false))

abbrev pub decreases-loop-lo : goal.decreases-loop-lo
decreases-loop-lo g l = l.hi - l.lo
