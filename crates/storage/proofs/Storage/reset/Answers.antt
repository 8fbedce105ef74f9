-- `Storage::reset` meets its contract: the area is cleared. Assumes nothing.
use Rattle.storage.proofs.Forms.{reset-is}
use Rattle.storage.specs.States.{store_of}
use Rattle.storage.proofs.Storage.reset.Goals as goal

pub returns : goal.returns
returns c =
    let s = c.args in
    reset-is (store_of s.self) _ s.area.now _ c.without_ack.ensures c.clear.ensures
