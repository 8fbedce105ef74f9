-- `checked::shift` meets its contract. Assumes nothing.
use Rattle.std.proofs.Common.{◌∙◌}
use Rattle.ints.proofs.Laid.{moved}
use Rattle.ints.proofs.checked.shift.Goals as goal

pub returns : goal.returns
returns c =
    let a = c.args in
    c.copy_within.ensures.after ∙ moved a.area.now a.from a.to a.by c.requires.0 c.requires.1
