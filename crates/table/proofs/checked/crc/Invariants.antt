-- `checked::crc` meets its contract. The loop's invariant: item i begins at the place, and the total is the sum of the data before it. Assumes nothing.
use mathlib.Core.Path.{◌≡◌}
use Rattle.definitions.specs.Tables.{list, item_at, start}
use Rattle.definitions.specs.Tables as Tables
use Rattle.table.proofs.checked.crc.Given as goal

abbrev pub invariant-loop-i : goal.invariant-loop-i
invariant-loop-i l = (l.at ≡ start l.area l.i) × (l.total ≡ Tables.crc (list (item_at l.area) l.i))
