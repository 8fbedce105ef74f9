-- `checked::updates_packed_len` meets its contract. The loop's invariant: the bytes counted, and those of the updates left, add up to the whole.
-- Assumes nothing.
use Prim.Native.Nat.{◌-◌}
use Rattle.definitions.specs.Packed.{pack_ints}
use Rattle.delta_writing.proofs.Writing.{Measuring}
use Rattle.delta_writing.proofs.checked.updates_packed_len.Given as goal

abbrev pub invariant-loop : goal.invariant-loop
invariant-loop l = Measuring pack_ints l.sizes l.area l.start l.n l.total l.p (l.n - l.counter)
