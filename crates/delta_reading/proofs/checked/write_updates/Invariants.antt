-- `checked::write_updates` meets its contract. The loop's invariant: with the rest written from here on, the area is as it should be.
-- Assumes nothing.
use Prim.Native.Nat.{◌-◌}
use Rattle.delta_reading.proofs.Turns.{Writing}
use Rattle.delta_reading.proofs.checked.write_updates.Given as goal

abbrev pub invariant-loop : goal.invariant-loop
invariant-loop l = Writing l.sizes l.src l.start l.n l.first l.initial.out l.out l.at l.p (l.n - l.counter)
