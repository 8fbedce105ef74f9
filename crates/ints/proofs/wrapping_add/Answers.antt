-- `ints::wrapping_add` meets its contract, by its definition. Assumes nothing.
use Rattle.std.proofs.Common.{refl}
use Rattle.definitions.specs.Ints.{bits, from_bits, wrapping_add}
use Rattle.ints.proofs.wrapping_add.Goals as goal

pub returns : goal.returns
unfolding wrapping_add from_bits bits
returns c = refl
