use Rattle.store_area.proofs.Forms.{zero-passed, all-zeros}
use native.Mathlib.Omega.{arith}
use Rattle.store_area.proofs.checked.zeros.Goals as goal

pub loop-i-preserved : goal.loop-i-preserved
loop-i-preserved c =
    let l = c in
    let a = l.args.area.now in
    zero-passed l.loop-i.all c.nat_at.result a l.args.from l.loop-i.i (omega arith) c.nat_at.ensures.0 l.loop-i.invariant

pub returns : goal.returns
returns c =
    let l = c in
    all-zeros l.loop-i.all l.args.area.now l.args.from l.loop-i.i (omega arith) l.loop-i.invariant
