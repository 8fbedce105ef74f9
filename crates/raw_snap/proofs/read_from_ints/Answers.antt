-- `raw_snap::read_from_ints` meets its contract: by the limit. Assumes nothing.
use native.Mathlib.Omega.{arith}
use mathlib.Core.Path.{◌∙◌}
use Rattle.table_reading.specs.Counted.{answered}
use Rattle.raw_snap.proofs.Counted.{ints-too-long}
use Rattle.raw_snap.proofs.read_from_ints.Goals as goal

pub returns-then-src-gt1048576 : goal.returns-then-src-gt1048576
returns-then-src-gt1048576 c =
    let a = c.args in
    ints-too-long a.src.now a.out.now (omega arith) ∙ answered _ c.refused.ensures
