-- `checked::deleted_fit` meets its contract. The loop's invariant: the keys so far fit, and the next one must be above the last of them.
-- Assumes nothing.
use Prim.Native.Nat.{suc}
use mathlib.Core.Path.{◌≡◌}
use mathlib.Core.Bool.{true}
use Rattle.definitions.specs.Ints.{bits}
use Rattle.definitions.specs.Tables.{all}
use Rattle.definitions.specs.Deltas.{rank, lowest_rank, deleted_fits}
use Rattle.delta_form.proofs.checked.deleted_fit.Given as goal

abbrev pub invariant-loop-i : goal.invariant-loop-i
invariant-loop-i l =
    (all (deleted_fits l.area) l.i ≡ true) × (lowest_rank l.area l.i ≡ suc (rank (bits l.last)))
