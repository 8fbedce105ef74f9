-- `checked::is_in` meets its contract: none is in if the tick is new. Assumes nothing.
use Rattle.receiver.proofs.Parts.{new_in}
use Rattle.receiver.proofs.checked.is_in.Goals as goal

pub returns-else-current : goal.returns-else-current
returns-else-current c = rw c.if-current.false (new_in c.args.lengths.now c.args.p c.requires.0)
