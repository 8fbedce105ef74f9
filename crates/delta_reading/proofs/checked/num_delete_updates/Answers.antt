-- `checked::num_delete_updates` meets its contract. Assumes nothing.
use Rattle.delta_reading.proofs.Counting.{no-crossings}
use Rattle.delta_reading.proofs.checked.num_delete_updates.Goals as goal

pub returns-then-deleted-eq0 : goal.returns-then-deleted-eq0
returns-then-deleted-eq0 c =
    let s = c.args in
    no-crossings s.sizes.now s.src.now s.deleted s.updated c.requires c.if-deleted-eq0.true
