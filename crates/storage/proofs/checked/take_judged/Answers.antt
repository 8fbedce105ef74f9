-- `checked::take_judged` meets its contract: by whether the tick is new. Assumes nothing.
use Rattle.definitions.specs.Deltas.{delta_in}
use Rattle.storage.proofs.Takes.{take-30, take-new}
use Rattle.storage.specs.States.{store_of}
use Rattle.storage.specs.Taking.{sum_of}
use borrow.Author.Tests.{not-true, not-false}
use mathlib.Core.List.{[]}
use mathlib.Core.Path.{sym, ◌∙◌}
use Rattle.storage.proofs.checked.take_judged.Goals as goal

pub returns-then-not-is_newer : goal.returns-then-not-is_newer
returns-then-not-is_newer c =
    let s = c in
    let x = s.args in
    let a = x.area.now in
    take-30 (store_of x.s) a (sum_of x.m) x.m.delta_tick.0 x.m.tick.0 (delta_in [] x.delta.now) x.ints s.requires.0
    (sym c.is_newer.ensures ∙ not-true _ c.if-not-is_newer.true-raw)
    ∙ c.not_taken.ensures a

pub returns : goal.returns
returns c =
    let x = c.args in
    take-new (store_of x.s) x.area.now (sum_of x.m) x.m.delta_tick.0 x.m.tick.0 (delta_in [] x.delta.now)
    (sym c.is_newer.ensures ∙ not-false _ c.if-not-is_newer.false-raw)
    ∙ c.take_on.ensures
