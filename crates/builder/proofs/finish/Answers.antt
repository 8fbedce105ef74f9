-- `builder::finish` meets its contract: by the form of a builder's table. Assumes nothing.
use Rattle.builder.proofs.Counting.{finished, not-finished}
use Rattle.builder.proofs.finish.Goals as goal

pub returns-in_default : goal.returns-in_default
returns-in_default c = not-finished c.args.area.now c.in_default.ensures

pub returns : goal.returns
returns c = finished c.args.area.now _ _ _ c.in-Some.ensures
