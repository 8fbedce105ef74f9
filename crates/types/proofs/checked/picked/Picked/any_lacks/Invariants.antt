-- `Picked::any_lacks` meets its contract. The loop's invariant: the answer for the items from j on is that for all. Assumes nothing.
use mathlib.Core.Path.{◌≡◌}
use Prim.Native.Nat.{◌-◌}
use Rattle.types.specs.Picks.{table_in, item_of, seg, any_lacks}
use Rattle.types.proofs.checked.picked.Picked.any_lacks.Given as goal

abbrev pub invariant-loop-j : goal.invariant-loop-j
invariant-loop-j l =
    any_lacks (table_in l.self.src.now l.self.n l.self.index.now) (seg (item_of l.self.src.now l.self.index.now) l.j (l.to - l.j)) ≡ any_lacks (table_in l.self.src.now l.self.n l.self.index.now) (seg (item_of l.self.src.now l.self.index.now) l.from (l.to - l.from))
