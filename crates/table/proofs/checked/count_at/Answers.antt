-- `checked::count_at` meets its contract. Assumes nothing.
use mathlib.Core.Path.{◌∙◌}
use Rattle.definitions.specs.Tables.{nat}
use Rattle.table.proofs.OffsetLaws.{count_bits}
use Rattle.table.proofs.checked.count_at.Goals as goal

pub returns : goal.returns
unfolding nat
returns c = c.bits_at.ensures.0 ∙ count_bits _ c.requires.1
