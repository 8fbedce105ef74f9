use Prim.Native.Nat.{◌<◌}
use native.Mathlib.Omega.{arith}
use Rattle.receiver.proofs.Parts.{counted, passed, none-counted}
use Rattle.receiver.proofs.checked.count_in.Goals as goal
use Rattle.receiver.proofs.checked.count_in.Goals.{then-len-le-PART_SIZE, else-len-le-PART_SIZE}

pub loop-len-init : goal.loop-len-init
loop-len-init c = (none-counted c.args.lengths.now, omega arith)

pub loop-len-preserved : goal.loop-len-preserved
loop-len-preserved c =
    let l = c.args.lengths.now in
    let k = c.loop-len in
    let h : k.len-index < 32 = omega (arith, c.requires) in
    elim c.if-len-le-PART_SIZE.branch [
      | then-len-le-PART_SIZE w ↦ (counted l c.requires k.n _ k.len-index h k.invariant.0 w.n-is w.if-len-le-PART_SIZE.true, omega arith)
      | else-len-le-PART_SIZE w ↦ (passed l c.requires k.n _ k.len-index h k.invariant.0 w.n-is w.if-len-le-PART_SIZE.false, omega arith)
    ]
