-- `whole::receive_empty` meets its contract: refusal by refusal. Assumes nothing.
use mathlib.Core.Path.{◌≡◌, sym, ◌∙◌}
use mathlib.Core.Bool.{true, false}
use borrow.Author.Tests.{not-true, not-false}
use Rattle.definitions.specs.Receiver.{no_parts, receiver_form, is_current}
use Rattle.format.specs.Totals.{counts}
use Rattle.format.specs.Sources.{flagged}
use Rattle.ticks.specs.Ticks.{distance_of}
use Rattle.receiver.specs.States.{receiver_with}
use Rattle.receiver.proofs.Calls.{empty-47, empty-20, empty-taken, empty-settled}
use Rattle.receiver.proofs.whole.receive_empty.Goals as goal
use Rattle.receiver.proofs.whole.receive_empty.Lts as lts
use Rattle.receiver.proofs.whole.receive_empty.Tie as tie
use Rattle.receiver.proofs.whole.receive_empty.Reads as reads

abbrev After-received-warnings : Type 0
After-received-warnings = lts.After-received tie.the-claims reads.Pre reads.Post

abbrev Else-not-ticks_form : Type 0
Else-not-ticks_form = lts.Else1 tie.the-claims reads.Pre reads.Post

-- the receiver is in form
formed : (c : Else-not-ticks_form) → let a = c.args in receiver_form (receiver_with a.r a.lengths.now) ≡ true
formed c = sym (c.ticks_form.ensures c.args.lengths.now c.count_in-n.ensures.0) ∙ not-false _ c.if-not-ticks_form.false-raw

-- the warning
told : (c : After-received-warnings) → let a = c.args in counts c.received-warnings.result ≡ flagged (is_current (receiver_with a.r a.lengths.now) a.tick.0) false
told c =
    rw (c.is_current-duplicate.ensures c.args.lengths.now) at c.received-warnings.ensures

pub returns-then-not-ticks_form : goal.returns-then-not-ticks_form
returns-then-not-ticks_form c area second =
    let a = c.args in
    empty-47 (receiver_with a.r a.lengths.now) a.tick.0 (distance_of a.delta_tick) (sym (c.ticks_form.ensures a.lengths.now c.count_in-n.ensures.0) ∙ not-true _ c.if-not-ticks_form.true-raw) area second
    ∙ c.refused.ensures a.lengths.now area second

pub returns-then-is_old : goal.returns-then-is_old
returns-then-is_old c area second =
    let a = c.args in
    empty-20 (receiver_with a.r a.lengths.now) a.tick.0 (distance_of a.delta_tick) (formed c.before.before.before) (sym (c.is_old.ensures a.lengths.now) ∙ c.if-is_old.true) area second
    ∙ c.refused-then-is_old.ensures a.lengths.now area second

pub returns : goal.returns
returns c area second =
    let a = c.args in
    empty-taken (receiver_with a.r a.lengths.now) a.tick.0 (distance_of a.delta_tick) (formed c.before.before.before.before.before.before.before) (sym (c.is_old.ensures a.lengths.now) ∙ c.if-is_old.false) area second
    ∙ empty-settled c.received-warnings.result (is_current (receiver_with a.r a.lengths.now) a.tick.0) a.tick (distance_of a.delta_tick) _ c.without_current.result (told c.before.before.before) c.minus-base.ensures (c.without_current.ensures no_parts) area second
