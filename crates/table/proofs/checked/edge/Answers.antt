use borrow.Author.Tests.{lt-ltb, le-ltb}
use Rattle.definitions.specs.Tables.{edge}
use Prim.Native.Nat.{◌<◌, ◌≤◌}
use Rattle.definitions.specs.Tables.{nat}
use borrow.Author.Rules.{rules}
use Rattle.table.proofs.checked.edge.Goals as goal

pub returns-then-i-n : goal.returns-then-i-n
unfolding edge
returns-then-i-n c =
    let h : c.args.i < nat c.args.area.now 1 = search rules in
    (rw (lt-ltb _ _ h) c.nat_at.ensures.0, search rules)

pub returns-else-i-n : goal.returns-else-i-n
unfolding edge
returns-else-i-n c =
    let h : nat c.args.area.now 1 ≤ c.args.i = search rules in
    (rw (le-ltb _ _ h) c.nat_at-else-i-n.ensures.0, search rules)
