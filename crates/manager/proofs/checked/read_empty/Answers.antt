-- `checked::read_empty` meets its contract. Assumes nothing.
use Rattle.manager.proofs.ReadStored.{empty-read}
use Rattle.manager.proofs.checked.read_empty.Goals as goal

pub returns : goal.returns
returns c =
    empty-read c.args.delta.now _ c.clear-answer.result c.none.result c.clear-answer.ensures c.none.ensures
