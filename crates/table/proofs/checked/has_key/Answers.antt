-- `checked::has_key` meets its contract: the item at the place has the key, or none has. Assumes nothing.
use Rattle.std.proofs.Common.{le-ltb}
use Rattle.definitions.specs.Ints.{bits}
use Rattle.table.specs.Finding.{at_place, past_all}
use Rattle.table.proofs.checked.has_key.Goals as goal

pub returns-then-place-n : goal.returns-then-place-n
unfolding bits
returns-then-place-n c =
    rw c.key_at.ensures (at_place c.args.area.now c.args.n _ c.args.place c.requires.0 c.requires.1 c.if-place-n.true)

pub returns-else-place-n : goal.returns-else-place-n
returns-else-place-n c =
    rw (le-ltb c.args.place c.args.n c.if-place-n.false) (past_all c.args.area.now c.args.n _ c.args.place c.requires.0 c.requires.1 c.if-place-n.false)
