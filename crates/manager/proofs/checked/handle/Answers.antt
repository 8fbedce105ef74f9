-- `checked::handle` meets its contract. Assumes nothing.
use Rattle.gamenet_snap.specs.Numbers.{numbers}
use Rattle.manager.proofs.Messages.{brought, handles}
use Rattle.receiver.specs.States.{receiver_of}
use Rattle.storage.specs.States.{store_of}
use Rattle.store_area.specs.Stores.{holds_in}
use native.Mathlib.Omega.{arith}
use Rattle.manager.proofs.checked.handle.Goals as goal

pub settle-requires : goal.settle-requires
settle-requires c =
    let a = c.args in
    let k = c.receive-a.auto.joined in
    (c.requires.0, c.requires.1, omega (arith, k, c.requires.2), brought (receiver_of a.g.receiver) a.m a.«data».now a.parts.now a.joined.now _ _ _ c.receive-a.ensures)

pub returns : goal.returns
returns c =
    let a = c.args in
    handles a.sizes.now (receiver_of a.g.receiver) (record { numbers = numbers a.m; bytes = a.«data».now }) a.parts.now a.joined.now a.delta.now a.area.now (holds_in (store_of a.g.storage) a.area.now) _ _ c.receive-a.ensures (c.settle.ensures _)
