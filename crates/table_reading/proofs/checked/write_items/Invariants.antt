-- `checked::write_items` meets its contract. The loop's invariant: laying the remaining items from here on gives the area with all laid.
-- Assumes nothing.
use mathlib.Core.Path.{◌≡◌}
use Prim.Native.Nat.{◌+◌}
use lib.ListN.{length, take, drop}
use Rattle.definitions.specs.Areas.{lay_at}
use Rattle.definitions.specs.Tables.{body}
use Rattle.table_reading.specs.Reading.{picked}
use Rattle.table_reading.proofs.checked.write_items.Given as goal

abbrev pub invariant-loop-number : goal.invariant-loop-number
invariant-loop-number l =
    (l.at + length (body (picked l.src (drop l.number-index (take l.n l.index)))) ≡ 2 + l.n + length (body (picked l.src (take l.n l.index)))) × (lay_at l.at (body (picked l.src (drop l.number-index (take l.n l.index)))) l.out ≡ lay_at (2 + l.n) (body (picked l.src (take l.n l.index))) l.initial.out)
