-- `checked::rank` meets its contract: it is the definition. Assumes nothing.
use native.Mathlib.Omega.{arith}
use mathlib.Core.Path.{refl}
use Rattle.definitions.specs.Deltas.{rank}
use Rattle.delta_form.proofs.checked.rank.Goals as goal

pub returns : goal.returns
unfolding rank
returns c = (refl, omega arith)
