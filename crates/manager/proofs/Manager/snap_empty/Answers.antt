-- `Manager::snap_empty` meets its contract, whatever sizes are known. Assumes nothing.
use Rattle.manager.proofs.Messages.{empty-same}
use Rattle.receiver.specs.States.{receiver_of}
use Rattle.storage.specs.States.{store_of}
use Rattle.ticks.specs.Ticks.{distance_of}
use lib.ListN.{length}
use mathlib.Core.Path.{◌∙◌}
use Rattle.manager.proofs.Manager.snap_empty.Goals as goal

pub returns : goal.returns
returns c =
    let a = c.args in
    (λ sizes. empty-same sizes _ a.tick.0 (distance_of a.delta_tick) a.parts.now a.joined.now a.delta.now a.area.now (receiver_of a.self.receiver) (store_of a.self.storage) (length a.scratch.now) ∙ c.message.ensures.0, c.message.ensures.1)
