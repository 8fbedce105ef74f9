-- `checked::next_int` meets its contract. Assumes nothing.
use Rattle.delta_source.proofs.Nexts.{read_next, plain-next}
use Rattle.delta_source.proofs.checked.next_int.Goals as goal

pub returns-then-packed : goal.returns-then-packed
returns-then-packed c =
    let a = c.args in
    rw c.if-packed.true (read_next a.bytes.now a.ints.now a.at c.read_int.result c.read_int.ensures)

pub returns : goal.returns
returns c =
    let a = c.args in
    rw c.if-packed.false (plain-next a.bytes.now a.ints.now a.at c.read_plain_int.result c.read_plain_int.ensures)
