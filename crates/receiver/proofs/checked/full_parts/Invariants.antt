-- `checked::full_parts` meets its contract: all parts so far are full. Assumes nothing.
use mathlib.Core.Path.{◌≡◌}
use mathlib.Core.List.{List}
use Prim.Native.Nat.{ℕ, ◌*◌}
use lib.ListN.{take}
use Rattle.definitions.specs.Receiver.{joined}
use Rattle.receiver.proofs.checked.full_parts.Given as goal

abbrev pub invariant-loop-i : goal.invariant-loop-i
invariant-loop-i l = (area : List ℕ) → joined l.lengths area l.i ≡ take (900 * l.i) area
