-- `checked::put` meets its contract: the cast keeps the count. Assumes nothing.
use mathlib.Core.Path.{ap}
use lib.ListN.{set}
use mir.Syntax.{w32}
use mir.Facts.{to_z_pos}
use Rattle.table.proofs.checked.put.Goals as goal

pub returns : goal.returns
returns c = ap (set c.args.area.now c.args.i) (to_z_pos w32 c.requires.1)
