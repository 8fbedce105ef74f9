use borrow.Author.Tests.{ltb-false}
use Rattle.laws.specs.ApplyWriting.{writes_end}
use Rattle.applying.proofs.Turns.{nothing_left}
use Rattle.applying.proofs.checked.merge_part.Goals as goal

pub returns : goal.returns
returns c =
    let e = writes_end c.loop-s.invariant.1 (nothing_left c.args.base.now c.args.to c.args.delta.now c.args.deleted c.loop-s.s c.if-s-to.false (ltb-false 0 c.loop-s.s.left c.if-s-gt0.false-raw)) in
    (e.1, e.2, e.0)
