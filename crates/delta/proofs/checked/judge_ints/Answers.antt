-- `checked::judge_ints` meets its contract: by the two limits. Assumes nothing.
use mathlib.Core.Path.{◌∙◌}
use native.Mathlib.Omega.{arith}
use lib.ListN.{length}
use Rattle.delta.proofs.ReadCalls.{answered, ints-too-short, ints-too-many}
use Rattle.delta.proofs.checked.judge_ints.Goals as goal

pub returns-then-scratch-lt16384 : goal.returns-then-scratch-lt16384
returns-then-scratch-lt16384 c =
    let a = c.args in
    ints-too-short a.src.now a.sizes.now a.out.now (length a.scratch.now) (omega arith) ∙ answered _ c.refused.ensures

pub returns-then-src-gt1048576 : goal.returns-then-src-gt1048576
returns-then-src-gt1048576 c =
    let a = c.args in
    ints-too-many a.src.now a.sizes.now a.out.now (length a.scratch.now) (omega arith) (omega arith) ∙ answered _ c.refused-then-src-gt1048576.ensures
