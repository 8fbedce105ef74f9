-- `ints::num` meets its contract: by the sign. Assumes nothing.
use Rattle.ints.proofs.Nums.{neg-num, pos-num, pos-small}
use Rattle.std.proofs.Common.{arith}
use Rattle.ints.proofs.num.Goals as goal

pub returns-then-x-lt0 : goal.returns-then-x-lt0
returns-then-x-lt0 c = (neg-num c.args.x c.ranges.x c.if-x-lt0.true, omega arith)

pub returns-else-x-lt0 : goal.returns-else-x-lt0
returns-else-x-lt0 c =
    (pos-num c.args.x c.ranges.x c.if-x-lt0.false, omega (arith, pos-small c.args.x c.ranges.x c.if-x-lt0.false))
