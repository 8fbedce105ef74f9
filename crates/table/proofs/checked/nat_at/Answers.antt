use mathlib.Core.Path.{ap, ◌∙◌}
use mir.Facts.{to_z-of_z}
use Rattle.definitions.specs.Tables.{num, nat}
use Rattle.std.proofs.Common.{w32}
use Rattle.table.proofs.checked.nat_at.Goals as goal

pub returns : goal.returns
unfolding nat
returns c =
    (c.num.ensures.0 ∙ ap num (to_z-of_z {w = w32} (record { sfits = c.num-arg-1.given })), c.num.ensures.1, c.num-arg-1.given)
