-- `delta_index::checked::int_at` meets its contract, by what `from_bits` ensures. Assumes nothing.
use mathlib.Core.Path.{◌∙◌}
use mir.Facts.{to_z-of_z}
use Rattle.definitions.specs.Deltas.{rank}
use Rattle.std.proofs.Common.{w32}
use Rattle.delta_index.proofs.checked.int_at.Goals as goal

pub returns : goal.returns
unfolding rank
returns c = to_z-of_z {w = w32} (record { sfits = c.from_bits.type_inv }) ∙ c.from_bits.ensures
