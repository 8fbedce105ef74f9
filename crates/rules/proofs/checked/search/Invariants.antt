-- `checked::search` meets its contract. The loop's invariant: the items from i on were looked at, and it is known whether the last type is named.
-- Assumes nothing.
use mathlib.Core.Path.{◌≡◌}
use Rattle.definitions.specs.DeltaReading.{elem}
use Rattle.rules.proofs.Turns.{Searched}
use Rattle.rules.proofs.checked.search.Given as goal

abbrev pub invariant-loop-i : goal.invariant-loop-i
invariant-loop-i l = record {
  known : l.named ≡ elem l.last l.types;
  searched : Searched l.types (l.fn.ingredient) l.area l.i l.best;
}
