-- `checked::walk_kinds` meets its contract. The loop's invariant: the rest, after the warnings so far, gives the whole outcome. Assumes nothing.
use mathlib.Core.Path.{◌≡◌}
use mathlib.Core.List.{[]}
use Prim.Native.Nat.{◌≤◌}
use Rattle.definitions.specs.Types.{judge_types}
use Rattle.types.specs.Picks.{item_of, table_in, seg}
use Rattle.types.proofs.Judging.{left}
use Rattle.types.proofs.checked.walk_kinds.Given as goal

abbrev pub invariant-loop-j : goal.invariant-loop-j
invariant-loop-j l = record {
  few : l.excess ≤ l.j;
  rest : left (table_in l.picked.src.now l.picked.n l.picked.index.now) (item_of l.picked.src.now l.picked.index.now) l.z l.j l.excess ≡ judge_types (table_in l.picked.src.now l.picked.n l.picked.index.now) [] (seg (item_of l.picked.src.now l.picked.index.now) 0 l.z);
}
