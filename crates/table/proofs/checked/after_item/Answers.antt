-- `checked::after_item` meets its contract. Assumes nothing.
use Rattle.table.proofs.KeyLaws.{comes, too-low}
use Rattle.table.proofs.checked.after_item.Goals as goal

pub returns-then-key-last : goal.returns-then-key-last
returns-then-key-last c =
    let s = c.before.before in
    too-low s.args.area.now s.args.n s.args.size s.args.i s.args.last s.requires.0 _ s.requires.1 c.key_bits-key.ensures.0 c.if-key-last.true

pub returns : goal.returns
returns c =
    let s = c.before.before in
    comes s.args.area.now s.args.n s.args.size s.args.i s.args.last s.requires.0 _ s.requires.1 c.key_bits-key.ensures.0 c.if-key-last.false c.key_bits-key.ensures.2
