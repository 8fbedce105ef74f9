-- `checked::judge_packed` meets its contract: by the limits. Assumes nothing.
use mathlib.Core.Path.{◌∙◌}
use native.Mathlib.Omega.{arith}
use lib.ListN.{length}
use Rattle.delta.proofs.ReadCalls.{answered, bytes-too-short, bytes-shorter, bytes-too-many}
use Rattle.delta.proofs.checked.judge_packed.Goals as goal

pub returns-then-scratch-lt16384 : goal.returns-then-scratch-lt16384
returns-then-scratch-lt16384 c =
    let a = c.args in
    bytes-too-short a.src.now a.sizes.now a.out.now (length a.scratch.now) (omega arith) ∙ answered _ c.refused.ensures

pub returns-then-scratch-src : goal.returns-then-scratch-src
returns-then-scratch-src c =
    let a = c.args in
    bytes-shorter a.src.now a.sizes.now a.out.now (length a.scratch.now) (omega arith) (omega arith) ∙ answered _ c.refused-then-scratch-src.ensures

pub returns-then-src-gt1048576 : goal.returns-then-src-gt1048576
returns-then-src-gt1048576 c =
    let a = c.args in
    bytes-too-many a.src.now a.sizes.now a.out.now (length a.scratch.now) (omega arith) (omega arith) (omega arith) ∙ answered _ c.refused-then-src-gt1048576.ensures
