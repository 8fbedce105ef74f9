-- `checked::lowest` meets its contract, from the latest tick on. Assumes nothing.
use mathlib.Core.Path.{◌≡◌}
use Rattle.definitions.specs.Logbook.{lowest}
use Rattle.printer_logbook.specs.States.{ticks_in}
use Rattle.printer_logbook.proofs.checked.lowest.Given as goal

abbrev pub invariant-loop-i : goal.invariant-loop-i
invariant-loop-i l = lowest l.low.0 (ticks_in l.i l.held) ≡ lowest l.initial.low.0 (ticks_in l.n l.held)
