-- `checked::receive` meets its contract: by how the part is judged. Assumes nothing.
use mathlib.Core.Path.{ap, ◌∙◌}
use Prim.Native.Nat.{ℕ}
use Rattle.format.specs.declared.Error.{Error}
use Rattle.std.specs.Prelude.{Result}
use Rattle.receiver.specs.States.{receiver_with, part_of}
use Rattle.receiver.specs.Answers.{judged_as}
use Rattle.receiver.proofs.checked.receive.Goals as goal

pub returns-in-Err : goal.returns-in-Err
returns-in-Err c =
    let a = c.args in
    c.judge.ensures.by_index a.lengths.now c.count_in-n.ensures.0
    ∙ (ap (λ (j : Result ℕ Error). judged_as j (receiver_with a.r a.lengths.now) (part_of a.m) a.«data».now a.parts.now a.joined.now) c.in-Err.is
    ∙ c.refused.ensures a.lengths.now a.parts.now a.joined.now)
