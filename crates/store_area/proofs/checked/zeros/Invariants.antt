-- `checked::zeros` meets its contract. The loop's invariant: what is known of the ints passed, and the rest. Assumes nothing.
use Rattle.definitions.specs.Storage.{all_zero}
use lib.ListN.{drop}
use mathlib.Core.Path.{◌≡◌}
use mathlib.Core.Bool.{◌&&◌}
use Rattle.store_area.proofs.checked.zeros.Given as goal

abbrev pub invariant-loop-i : goal.invariant-loop-i
invariant-loop-i l = (l.all && all_zero (drop l.i l.area)) ≡ all_zero (drop l.from l.area)
