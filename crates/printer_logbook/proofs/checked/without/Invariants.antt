-- `checked::without` meets its contract: a turn drops an equal tick. Assumes nothing.
use Rattle.definitions.specs.Logbook.{without}
use Rattle.printer_logbook.proofs.Lists.{Keeps}
use Rattle.printer_logbook.proofs.checked.without.Given as goal

abbrev pub invariant-loop-i : goal.invariant-loop-i
invariant-loop-i l = Keeps (without l.tick.0) l.initial.held l.held l.kept l.i
