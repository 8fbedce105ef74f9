-- `checked::at_end` meets its contract. Assumes nothing.
use Rattle.delta_source.proofs.Nexts.{packed-end, ints-end}
use Rattle.delta_source.proofs.checked.at_end.Goals as goal

pub returns-then-packed : goal.returns-then-packed
returns-then-packed c =
    let a = c.args in
    rw c.if-packed.true (packed-end a.bytes.now a.ints.now a.at)

pub returns : goal.returns
returns c =
    let a = c.args in
    rw c.if-packed.false (ints-end a.bytes.now a.ints.now a.at)
