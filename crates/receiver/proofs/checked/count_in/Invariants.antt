-- `checked::count_in` meets its contract: the parts so far are counted. Assumes nothing.
use mathlib.Core.Path.{◌≡◌}
use Prim.Native.Nat.{◌≤◌}
use Rattle.definitions.specs.Receiver.{count_in}
use Rattle.receiver.proofs.checked.count_in.Given as goal

abbrev pub invariant-loop-len : goal.invariant-loop-len
invariant-loop-len l = (l.n ≡ count_in l.lengths l.len-index) × (l.n ≤ l.len-index)
