-- `ints::to_bits` meets its contract. Assumes nothing.
use Rattle.std.proofs.Common.{ap, ◌∙◌, of_z, to_z-of_z, w32}
use Rattle.definitions.specs.Ints.{bits}
use Rattle.ints.proofs.to_bits.Goals as goal

pub returns : goal.returns
unfolding bits
returns c = c.cast_unsigned.ensures ∙ ap (of_z w32) (to_z-of_z {w = w32} c.ranges.x)
