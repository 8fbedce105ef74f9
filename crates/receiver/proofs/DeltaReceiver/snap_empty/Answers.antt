-- `DeltaReceiver::snap_empty` meets its contract. Assumes nothing.
use mathlib.Core.Path.{refl, ap, ◌∙◌}
use Rattle.receiver.specs.declared.checked.Ticks.{Ticks}
use Rattle.receiver.specs.States.{receiver_with}
use Rattle.receiver.specs.Moves.{empty-moved}
use Rattle.receiver.proofs.DeltaReceiver.snap_empty.Goals as goal

pub returns : goal.returns
returns c area second =
    let a = c.args in
    empty-moved area second (ap (λ (t : Ticks). receiver_with t a.self.parts) c.ticks_of-t.ensures) refl refl (c.receive_empty-a.ensures area second)
    ∙ c.receiving.ensures area second
