-- `checked::opened` meets its contract: the tick is the unfinished one, or a new one. Assumes nothing.
use mathlib.Core.Path.{sym, ◌∙◌}
use Rattle.receiver.proofs.Opening.{none_open, still_open, newly-open}
use Rattle.receiver.proofs.checked.opened.Goals as goal
use Rattle.receiver.proofs.checked.opened.Goals.{in_default-via-in-Some+else-is_same, in_default-via-in_default}

pub returns-in-Some : goal.returns-in-Some
returns-in-Some c = still_open c.args.r c.args.m _ c.in-Some.is (sym c.is_same.ensures ∙ c.if-is_same.true)

pub returns-in_default : goal.returns-in_default
returns-in_default c =
    elim c.in_default.branch [
      | in_default-via-in-Some+else-is_same w ↦ newly-open c.args.r c.args.m _ w.in-Some.is c.first_says.result (sym w.is_same.ensures ∙ w.if-is_same.false) c.first_says.ensures
      | in_default-via-in_default w ↦ none_open c.args.r c.args.m c.first_says.result w.in_default.is c.first_says.ensures
    ]
