-- `checked::walk_place` meets its contract: the items with negative keys, then the others. Assumes nothing.
use native.Mathlib.Omega.{arith}
use Rattle.table.proofs.Places.{later, earlier}
use Rattle.table.proofs.checked.walk_place.Goals as goal

pub returns-then-at-n : goal.returns-then-at-n
returns-then-at-n c =
    let s = c.before.before in
    (c.if-at-n.true, later _ _ s.requires.0 _ _ c.walk_start.ensures c.if-at-n.true)

pub returns : goal.returns
returns c =
    let s = c.before.before in
    let p = c.walk_start.ensures in
    (omega (arith, p.within, s.requires.0.count-is), earlier _ _ s.requires.0 _ _ p s.requires.1 (omega arith))
