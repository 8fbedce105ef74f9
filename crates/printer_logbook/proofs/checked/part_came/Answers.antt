-- `checked::part_came` meets its contract: by whether a part is missing. Assumes nothing.
use mathlib.Core.Path.{sym, ◌∙◌}
use Rattle.printer_logbook.proofs.Notes.{part-last, part-missing}
use Rattle.printer_logbook.specs.States.{logbook_of}
use Rattle.printer_logbook.proofs.checked.part_came.Goals as goal

pub returns-then-all_came : goal.returns-then-all_came
returns-then-all_came c =
    let h = c in
    let b = c in
    let a = b.args in
    λ before. part-last (logbook_of a.g before a.held.now) a.tick.0 a.base.0 a.count _ (sym b.all_came.ensures ∙ h.if-all_came.true) h.held_for-ticks.ensures.0 c.complete.ensures

pub returns : goal.returns
returns c =
    let b = c in
    let a = b.args in
    λ before. part-missing (logbook_of a.g before a.held.now) a.tick.0 a.base.0 a.count _ (sym b.all_came.ensures ∙ c.if-all_came.false)
