-- `Picked::has_key` meets its contract: the first item whose key is not less has it, or none has. Assumes nothing.
use mathlib.Core.Path.{◌∙◌}
use borrow.Author.Tests.{le-ltb}
use Rattle.types.proofs.Lacking.{absent, tested}
use Rattle.types.proofs.checked.picked.Picked.has_key.Goals as goal

pub returns-then-p-self : goal.returns-then-p-self
returns-then-p-self c = tested _ _ _ c.args.self.picks _ _ c.lower-p.ensures _ c.key_of.ensures.0 c.if-p-self.true

pub returns-else-p-self : goal.returns-else-p-self
returns-else-p-self c = le-ltb _ _ c.if-p-self.false ∙ absent _ _ _ c.args.self.picks _ _ c.lower-p.ensures c.if-p-self.false
