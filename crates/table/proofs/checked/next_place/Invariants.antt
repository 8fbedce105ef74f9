-- `checked::next_place` meets its contract. The loop's invariant: the keys before i are less. Assumes nothing.
use Prim.Native.Nat.{ℕ, ◌<◌}
use Rattle.definitions.specs.Ints.{bits}
use Rattle.definitions.specs.Tables.{key_at}
use Rattle.table.proofs.checked.next_place.Given as goal

abbrev pub invariant-loop-i : goal.invariant-loop-i
invariant-loop-i l = ((j : ℕ) → j < l.i → key_at l.area j < (bits l.fn.key))
