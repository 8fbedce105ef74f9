-- `checked::list_keys` meets its contract. The loop's invariant: the items so far are fine, and their keys are listed. Assumes nothing.
use mathlib.Core.Path.{◌≡◌}
use Rattle.definitions.specs.Tables.{edge}
use Rattle.sorting.specs.Pairs.{pairs}
use Rattle.table_reading.specs.Reading.{Fine, numbered}
use Rattle.table_reading.proofs.checked.list_keys.Given as goal

abbrev pub invariant-loop-i : goal.invariant-loop-i
invariant-loop-i l =
    Fine l.src l.n l.len l.i × (l.here ≡ edge l.src l.i) × (pairs l.keys l.i ≡ numbered l.src l.i)
