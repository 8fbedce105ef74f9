-- `checked::pack_updates` meets its contract. The loop's invariant: with the rest packed from here on, the area is as it should be.
-- Assumes nothing.
use Prim.Native.Nat.{◌-◌}
use Rattle.definitions.specs.Packed.{pack_ints}
use Rattle.delta_writing.proofs.Writing.{Writing}
use Rattle.delta_writing.proofs.checked.pack_updates.Given as goal

abbrev pub invariant-loop : goal.invariant-loop
invariant-loop l = Writing pack_ints l.sizes l.area l.start l.n l.first l.initial.out l.out l.at l.p (l.n - l.counter)
