-- `boundary_states::checked::load_receiver` meets its contract: by what `load_ticks` promises. Assumes nothing.
use mathlib.Core.Path.{◌∙◌}
use Rattle.boundary_states.proofs.checked.load_receiver.Goals as goal

pub returns : goal.returns
returns c = c.with_lengths.ensures ∙ c.load_ticks.ensures _
