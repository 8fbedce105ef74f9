-- `checked::has_tick` meets its contract: none of the ticks so far is the one. Assumes nothing.
use mathlib.Core.Path.{◌≡◌}
use mathlib.Core.Bool.{false}
use Rattle.definitions.specs.Logbook.{has_tick}
use Rattle.printer_logbook.specs.States.{ticks_in}
use Rattle.printer_logbook.proofs.checked.has_tick.Given as goal

abbrev pub invariant-loop-x : goal.invariant-loop-x
invariant-loop-x l = false ≡ has_tick l.tick.0 (ticks_in l.x-index l.held)
