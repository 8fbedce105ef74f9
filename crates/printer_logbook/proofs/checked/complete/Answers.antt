-- `checked::complete` meets its contract: by whether the base is held. Assumes nothing.
use mathlib.Core.Path.{sym, ◌∙◌}
use Rattle.printer_logbook.proofs.Notes.{complete-held, complete-unknown}
use Rattle.printer_logbook.proofs.checked.complete.Goals as goal

pub returns-then-has_base : goal.returns-then-has_base
returns-then-has_base c =
    let b = c in
    let a = b.args in
    complete-held a.tick.0 a.base.0 _ _ (sym b.has_base.ensures ∙ c.if-has_base.true) c.holding.ensures

pub returns : goal.returns
returns c =
    let b = c in
    let a = b.args in
    complete-unknown a.tick.0 a.base.0 _ _ (sym b.has_base.ensures ∙ c.if-has_base.false)
