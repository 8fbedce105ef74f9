-- `same` meets its contract, by its definition. Assumes nothing.
use Rattle.std.proofs.Common.{refl}
use Rattle.definitions.specs.Ints.{bits}
use Rattle.ints.proofs.same.Goals as goal

pub returns : goal.returns
unfolding bits
returns c = refl
