-- The empty delta changes no table. Assumes nothing.
use Rattle.std.specs.Prelude.{◌≡◌, refl, [], ◌∷◌, ◌+◌, length}
use Rattle.std.proofs.Common.{ap, arith, eq-eqb}
use Rattle.definitions.specs.Outcome.{return}
use Rattle.definitions.specs.Tables.{Table}
use Rattle.definitions.specs.Applying.{kept, apply_updates, apply_delta}
use Rattle.definitions.specs.Manager.{empty_delta}

-- where no key is deleted, all is kept
pub all-kept : (b : Table) → kept [] b ≡ b
unfolding kept
all-kept [] = refl
all-kept (x ∷ b) = ap (λ (l : Table). x ∷ l) (all-kept b)

-- the base is left, without a warning
pub apply-empty : (b : Table) → apply_delta b empty_delta ≡ return b
unfolding apply_delta apply_updates
apply-empty b =
    let e : length b + 0 ≡ length b = omega arith in
    rw (all-kept b, eq-eqb (length b + 0) (length b) e)
