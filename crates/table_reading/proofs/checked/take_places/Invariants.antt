-- `checked::take_places` meets its contract. The loop's invariant: the places so far are at the front of the index. Assumes nothing.
use mathlib.Core.Path.{◌≡◌}
use mathlib.Core.List.{map}
use lib.ListN.{take}
use Rattle.sorting.specs.Pairs.{pairs, place}
use Rattle.table_reading.proofs.checked.take_places.Given as goal

abbrev pub invariant-loop-j : goal.invariant-loop-j
invariant-loop-j l = (take l.j l.index ≡ map place (pairs l.keys l.j))
