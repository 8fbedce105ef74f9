-- `checked::update_bits` meets its contract: the upper half is the type, the lower the id. Assumes nothing.
use native.Mathlib.Omega.{arith}
use Rattle.definitions.specs.Deltas.{update_key}
use Rattle.delta_form.proofs.checked.update_bits.Goals as goal

pub returns : goal.returns
unfolding update_key
returns c = (omega arith, omega arith)
