use mathlib.Core.Path.{refl, sym, ◌∙◌}
use Rattle.definitions.specs.Logbook.{all_came}
use Rattle.printer_logbook.proofs.Lists.{all-turn, all-missing}
use Rattle.printer_logbook.proofs.checked.all_came.Goals as goal

pub loop-i-init : goal.loop-i-init
unfolding all_came
loop-i-init c = refl

pub loop-i-preserved : goal.loop-i-preserved
loop-i-preserved c = all-turn c.loop-i.i _ (sym c.elem.ensures ∙ c.if-not-elem.false) c.loop-i.invariant

pub returns-then-not-elem : goal.returns-then-not-elem
returns-then-not-elem c = all-missing c.loop-i.i c.args.count _ c.loop-i-test.true (sym c.elem.ensures ∙ c.if-not-elem.true)
