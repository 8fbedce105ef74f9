-- `checked::update_data` meets its contract: the differences are within the area. Assumes nothing.
use native.Mathlib.Omega.{arith}
use Rattle.definitions.specs.Deltas.{update_end}
use Rattle.delta_form.proofs.checked.update_data.Goals as goal

pub slice_bounds-result-end : goal.slice_bounds-result-end
unfolding update_end
slice_bounds-result-end c = omega (arith, c.requires.ends)
