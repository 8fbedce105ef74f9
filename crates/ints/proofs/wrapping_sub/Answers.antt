-- `ints::wrapping_sub` meets its contract, by its definition. Assumes nothing.
use Rattle.std.proofs.Common.{refl}
use Rattle.definitions.specs.Ints.{bits, from_bits, wrapping_sub}
use Rattle.ints.proofs.wrapping_sub.Goals as goal

pub returns : goal.returns
unfolding wrapping_sub from_bits bits
returns c = refl
