-- `checked::refused` meets its contract. Assumes nothing.
use Rattle.manager.proofs.checked.refused.Goals as goal

pub returns : goal.returns
returns c = λ parts joined delta area. rw c.none.ensures
