-- `checked::count_delete_updates` meets its contract. The loop's invariant: what was counted and what is left add up to the whole.
-- Assumes nothing.
use Prim.Native.Nat.{◌-◌}
use Rattle.delta_reading.proofs.Counting.{Counting}
use Rattle.delta_reading.proofs.checked.count_delete_updates.Given as goal

abbrev pub invariant-loop : goal.invariant-loop
invariant-loop l = Counting l.sizes l.src l.deleted l.updated l.total l.i l.p (l.updated - l.counter)
