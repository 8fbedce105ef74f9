-- `checked::update_end` meets its contract: it is the definition. Assumes nothing.
use native.Mathlib.Omega.{arith}
use Rattle.definitions.specs.Deltas.{update_end}
use Rattle.delta_form.proofs.checked.update_end.Goals as goal

pub returns : goal.returns
unfolding update_end
returns c = omega arith
