-- `checked::read_ints` meets its contract: by the two limits. Assumes nothing.
use native.Mathlib.Omega.{arith}
use mathlib.Core.Path.{◌∙◌}
use Rattle.table_reading.specs.Counted.{answered}
use Rattle.snap.proofs.Counted.{ints-too-short, ints-too-long, ints-read}
use Rattle.snap.proofs.checked.read_ints.Goals as goal

pub returns-then-scratch-lt16384 : goal.returns-then-scratch-lt16384
returns-then-scratch-lt16384 c =
    let a = c.args in
    ints-too-short a.src.now a.out.now a.scratch (omega arith) ∙ answered _ c.refused.ensures

pub returns-then-src-gt1048576 : goal.returns-then-src-gt1048576
returns-then-src-gt1048576 c =
    let a = c.args in
    ints-too-long a.src.now a.out.now a.scratch (omega arith) (omega arith) ∙ answered _ c.refused-then-src-gt1048576.ensures

pub returns : goal.returns
returns c =
    let a = c.args in
    let r = c.read_typed-read in
    ints-read a.src.now a.out.now a.scratch (omega arith) _ r.result.answer r.result.excess r.result.kinds _ (omega arith) (rw c.one_if.ensures at c.table.ensures) r.ensures
