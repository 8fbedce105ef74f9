-- `checked::stop` meets its contract. Assumes nothing.
use Rattle.manager.proofs.checked.stop.Goals as goal

pub returns : goal.returns
returns c = c.told.ensures
