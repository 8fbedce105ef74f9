-- `checked::not_below` meets its contract: a turn drops a tick below another. Assumes nothing.
use Rattle.definitions.specs.Logbook.{not_below}
use Rattle.printer_logbook.proofs.Lists.{Keeps}
use Rattle.printer_logbook.proofs.checked.not_below.Given as goal

abbrev pub invariant-loop-i : goal.invariant-loop-i
invariant-loop-i l = Keeps (not_below l.tick.0) l.initial.held l.held l.kept l.i
