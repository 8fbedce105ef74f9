-- `checked::low_updates` meets its contract. The loop's invariant: the updates passed have negative keys. Assumes nothing.
use Prim.Native.Nat.{◌-◌}
use Rattle.laws.specs.ApplyHalves.{HighBefore}
use Rattle.applying.proofs.checked.low_updates.Given as goal

abbrev pub invariant-loop-i : goal.invariant-loop-i
invariant-loop-i l = HighBefore l.delta l.from l.updated l.p (l.updated - l.i)
