-- `checked::list_halves` meets its contract. The loop's invariant: the keys so far are listed. Assumes nothing.
use mathlib.Core.Path.{◌≡◌}
use Prim.Native.Nat.{ℕ, ◌<◌}
use Rattle.sorting.specs.Pairs.{pairs}
use Rattle.types.specs.Kinds.{halves, keyed}
use Rattle.types.proofs.checked.list_halves.Given as goal

abbrev pub invariant-loop-j : goal.invariant-loop-j
invariant-loop-j l = record {
  listed : pairs l.list l.j ≡ keyed (halves l.picked.src.now l.picked.index.now) l.classes l.i l.j;
  small : (k : ℕ) → k < l.j → halves l.picked.src.now l.picked.index.now k l.i < 65536;
}
