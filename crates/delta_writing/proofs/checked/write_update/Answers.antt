-- `checked::write_update` meets its contract: both parts were copied. Assumes nothing.
use Rattle.delta_writing.proofs.Writing.{int-written}
use Rattle.delta_writing.proofs.checked.write_update.Goals as goal

pub returns : goal.returns
returns c =
    let s = c.args in
    int-written s.sizes.now s.area.now s.p c.requires.0 s.at _ _ _ _ _ _ c.requires.1 c.copy_into.ensures c.update_rest-rest.ensures c.copy_into-2.ensures
