-- `DeltaReceiver::snap` meets its contract. Assumes nothing.
use mathlib.Core.Path.{refl, ap, ◌∙◌}
use mir.Facts.{to_z-of_z}
use Rattle.receiver.specs.declared.checked.Ticks.{Ticks}
use Rattle.receiver.specs.States.{receiver_with}
use Rattle.receiver.specs.Moves.{snap-moved}
use Rattle.std.proofs.Common.{w32}
use Rattle.receiver.proofs.DeltaReceiver.snap.Goals as goal

pub returns : goal.returns
returns c =
    let s = c in
    let a = s.args in
    let f = s.ranges in
    snap-moved a.«data».now a.parts.now a.joined.now (ap (λ (t : Ticks). receiver_with t a.self.parts) c.ticks_of.ensures) refl refl (to_z-of_z {w = w32} f.num_parts) (to_z-of_z {w = w32} f.part) (to_z-of_z {w = w32} f.crc) c.receive-a.ensures
    ∙ c.receiving.ensures _ _
