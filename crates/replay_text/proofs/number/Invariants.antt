-- `replay_text::number` meets its contract. The loop's invariant: the digits so far and those that are left make the whole number.
-- Assumes nothing.
use mathlib.Core.Path.{◌≡◌}
use lib.ListN.{drop}
use Rattle.replay_text.specs.Numbers.{number_after}
use Rattle.replay_text.proofs.number.Given as goal

abbrev pub invariant-loop-b : goal.invariant-loop-b
invariant-loop-b l = number_after l.value (drop l.b-index l.text) ≡ number_after 0 l.text
