-- `checked::write_whole` meets its contract: by the sizes. Assumes nothing.
use Rattle.delta_reading.proofs.Whole.{whole-stands}
use Rattle.delta_reading.proofs.checked.write_whole.Goals as goal

pub returns-then-sizes-eq0 : goal.returns-then-sizes-eq0
returns-then-sizes-eq0 c =
    let s = c.args in
    whole-stands s.sizes.now s.src.now s.deleted s.updated c.requires.0 c.requires.1 c.if-sizes-eq0.true s.out.now _ c.copy_whole.ensures
