-- `checked::updates_len` meets its contract. The loop's invariant: the ints counted, and those of the updates left, add up to the whole.
-- Assumes nothing.
use Prim.Native.Nat.{◌-◌}
use Rattle.delta_reading.proofs.Turns.{Measuring}
use Rattle.delta_reading.proofs.checked.updates_len.Given as goal

abbrev pub invariant-loop : goal.invariant-loop
invariant-loop l = Measuring l.sizes l.src l.start l.n l.total l.p (l.n - l.counter)
