-- `checked::pair_key` meets its contract: the key follows the place. Assumes nothing.
use native.Mathlib.Omega.{arith}
use Rattle.sorting.specs.Pairs.{pair_at}
use Rattle.types.proofs.checked.pair_key.Goals as goal

pub returns : goal.returns
unfolding pair_at
returns c = omega (arith, c.bits_at-key.ensures.0, c.bits_at-place.ensures.0)
