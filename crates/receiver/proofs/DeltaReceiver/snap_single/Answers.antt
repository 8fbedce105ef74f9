-- `DeltaReceiver::snap_single` meets its contract. Assumes nothing.
use mathlib.Core.Path.{refl, ap, ◌∙◌}
use mir.Facts.{to_z-of_z}
use Rattle.receiver.specs.declared.checked.Ticks.{Ticks}
use Rattle.receiver.specs.States.{receiver_with}
use Rattle.receiver.specs.Moves.{single-moved}
use Rattle.std.proofs.Common.{w32}
use Rattle.receiver.proofs.DeltaReceiver.snap_single.Goals as goal

pub returns : goal.returns
returns c area =
    let s = c in
    let a = s.args in
    single-moved a.«data».now area a.joined.now (ap (λ (t : Ticks). receiver_with t a.self.parts) c.ticks_of-t.ensures) refl refl (to_z-of_z {w = w32} s.ranges.crc) (c.receive_single-a.ensures area)
    ∙ c.receiving.ensures area _
