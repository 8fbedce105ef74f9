-- `checked::take_on` meets its contract: by whether the base is held. Assumes nothing.
use Rattle.definitions.specs.Deltas.{delta_in}
use Rattle.storage.proofs.Takes.{take-31, take-held, left-holds}
use Rattle.storage.specs.Taking.{sum_of}
use borrow.Author.Tests.{not-true, not-false}
use lib.IntN.{ℤ}
use mathlib.Core.List.{List, []}
use mathlib.Core.Path.{sym, ◌∙◌}
use Rattle.storage.proofs.checked.take_on.Goals as goal

pub returns-then-not-has_base : goal.returns-then-not-has_base
returns-then-not-has_base c =
    let Base : ℤ =
    c.args.m.delta_tick.0 in
    let A : List ℤ =
    c.args.area.now in
    let b = c in
    let d = c in
    let s = c in
    let x = s.args in
    take-31 x.s (A) x.ints s.requires.0 (sum_of x.m) (Base) x.m.tick.0 (delta_in [] x.delta.now) _ _ _ d.drop_for-left.ensures
    c.without_ack.result c.none.result (sym b.has_base.ensures ∙ not-true _ c.if-not-has_base.true-raw)
    c.without_ack.ensures c.none.ensures

pub hold_made-requires : goal.hold_made-requires
hold_made-requires c =
    let Base : ℤ =
    c.args.m.delta_tick.0 in
    let A : List ℤ =
    c.args.area.now in
    let m = c in
    let d = c in
    let s = c in
    let x = s.args in
    let w = c.with_count in
    (left-holds x.s (A) x.ints s.requires.0 (Base) _ _ _ d.drop_for-left.ensures w.result w.ensures, m.apply_on-made.ensures.stands)

pub returns : goal.returns
returns c =
    let Base : ℤ =
    c.args.m.delta_tick.0 in
    let A : List ℤ =
    c.args.area.now in
    let m = c in
    let b = c in
    let d = c in
    let s = c in
    let x = s.args in
    let w = c.with_count in
    let h = sym b.has_base.ensures ∙ not-false _ m.if-not-has_base.false-raw in
    take-held x.s (A) x.ints s.requires.0 (sum_of x.m) (Base) x.m.tick.0 (delta_in [] x.delta.now) _ _ _ d.drop_for-left.ensures
    w.result m.apply_on-made.result _ _ w.ensures h m.apply_on-made.ensures c.hold_made.ensures
