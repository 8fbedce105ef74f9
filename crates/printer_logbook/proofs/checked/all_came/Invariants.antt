-- `checked::all_came` meets its contract, one more part at each turn. Assumes nothing.
use mathlib.Core.Path.{◌≡◌}
use mathlib.Core.Bool.{true}
use Rattle.definitions.specs.Logbook.{all_came}
use Rattle.printer_logbook.specs.States.{parts_in}
use Rattle.printer_logbook.proofs.checked.all_came.Given as goal

abbrev pub invariant-loop-i : goal.invariant-loop-i
invariant-loop-i l = true ≡ all_came l.i (parts_in l.n l.came)
