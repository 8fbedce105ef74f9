-- `checked::is_deleted` meets its contract. Assumes nothing.
use mathlib.Core.Path.{sym, ◌∙◌}
use mir.Facts.{to_z-of_z}
use Rattle.definitions.specs.Ints.{bits}
use Rattle.laws.specs.IntLaws.{bits-lt}
use Rattle.delta_form.specs.Reached.{elem-reached}
use Rattle.std.proofs.Common.{w32}
use Rattle.apply_judging.proofs.checked.is_deleted.Goals as goal

pub returns : goal.returns
returns c =
    c.has_deleted.ensures
    ∙ rw (to_z-of_z {w = w32} c.ranges.key)
    (sym (elem-reached c.args.delta.now c.args.deleted c.requires.0.keys c.args.place (bits c.args.key) (bits-lt c.ranges.key) c.requires.1))
