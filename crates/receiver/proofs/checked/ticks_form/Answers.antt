-- `checked::ticks_form` meets its contract: case by case. Assumes nothing.
use mathlib.Core.Path.{sym, ◌∙◌}
use borrow.Author.Tests.{not-true, not-false}
use Rattle.receiver.proofs.Forms.{no-current, not-above, too_many, none_in, some_in}
use Rattle.receiver.proofs.checked.ticks_form.Goals as goal

pub returns-in_default : goal.returns-in_default
returns-in_default c lengths e = no-current c.args.r lengths _ e c.in_default.is

pub returns-then-not-above_previous : goal.returns-then-not-above_previous
returns-then-not-above_previous c lengths e =
    not-above c.args.r lengths _ e c.in-Some.c c.in-Some.is (sym c.above_previous.ensures ∙ not-true _ c.if-not-above_previous.true-raw)

pub returns-then-k-gt-MAX_PARTS : goal.returns-then-k-gt-MAX_PARTS
returns-then-k-gt-MAX_PARTS c lengths e =
    too_many c.args.r lengths _ e c.in-Some.c c.in-Some.is (sym c.above_previous.ensures ∙ not-false _ c.if-not-above_previous.false-raw) c.if-k-gt-MAX_PARTS.true

pub returns-then-n-eq0 : goal.returns-then-n-eq0
returns-then-n-eq0 c lengths e =
    none_in c.args.r lengths _ e c.in-Some.c c.in-Some.is (sym c.above_previous.ensures ∙ not-false _ c.if-not-above_previous.false-raw) c.if-k-gt-MAX_PARTS.false c.if-n-eq0.true

pub returns : goal.returns
returns c lengths e =
    some_in c.args.r lengths _ e c.in-Some.c c.in-Some.is (sym c.above_previous.ensures ∙ not-false _ c.if-not-above_previous.false-raw) c.if-k-gt-MAX_PARTS.false c.if-n-eq0.false
