-- `ints::from_bits` meets its contract. Assumes nothing.
use Rattle.std.proofs.Common.{◌∙◌, to_z-of_z, w32}
use Rattle.definitions.specs.Ints.{from_bits}
use Rattle.ints.proofs.from_bits.Goals as goal

pub returns : goal.returns
unfolding from_bits
returns c = to_z-of_z {w = w32} (record { sfits = c.cast_signed.type_inv }) ∙ c.cast_signed.ensures
