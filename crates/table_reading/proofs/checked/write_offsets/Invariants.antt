-- `checked::write_offsets` meets its contract. The loop's invariant: laying the remaining offsets from here on gives the area with all laid.
-- Assumes nothing.
use mathlib.Core.Path.{◌≡◌}
use Prim.Native.Nat.{◌+◌, ◌*◌}
use lib.ListN.{length, take, drop}
use Rattle.definitions.specs.Areas.{lay_at}
use Rattle.definitions.specs.Tables.{offsets, body}
use Rattle.table_reading.specs.Reading.{picked}
use Rattle.table_reading.proofs.checked.write_offsets.Given as goal

abbrev pub invariant-loop-j : goal.invariant-loop-j
invariant-loop-j l =
    (l.offset + 4 * length (body (picked l.src (drop l.j (take l.n l.index)))) ≡ 4 * length (body (picked l.src (take l.n l.index)))) × (lay_at (2 + l.j) (offsets l.offset (picked l.src (drop l.j (take l.n l.index)))) l.out ≡ lay_at 2 (offsets 0 (picked l.src (take l.n l.index))) l.initial.out)
