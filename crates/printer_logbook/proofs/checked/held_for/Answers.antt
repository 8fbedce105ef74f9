-- `checked::held_for` meets its contract. Assumes nothing.
use mathlib.Core.Path.{sym, ◌∙◌}
use native.Mathlib.Omega.{arith}
use Rattle.printer_logbook.proofs.Notes.{for-negative, for-base}
use Rattle.printer_logbook.proofs.checked.held_for.Goals as goal

pub returns-then-is_negative : goal.returns-then-is_negative
returns-then-is_negative c = (for-negative c.args.base.0 _ (sym c.is_negative.ensures ∙ c.if-is_negative.true), omega arith)

pub returns : goal.returns
returns c =
    let s = c in
    let k = c.not_below.ensures in
    (for-base s.args.base.0 _ (sym s.is_negative.ensures ∙ c.if-is_negative.false) k.0, k.1)
