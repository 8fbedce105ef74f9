-- `checked::join` meets its contract: the full leading parts at once, then part by part. Assumes nothing.
use mathlib.Core.Path.{◌≡◌}
use mathlib.Core.List.{List}
use Prim.Native.Nat.{ℕ, ◌*◌, ◌≤◌}
use lib.ListN.{length}
use Rattle.definitions.specs.Areas.{lay}
use Rattle.definitions.specs.Receiver as Receiver
use Rattle.receiver.proofs.checked.join.Given as goal

abbrev pub invariant-loop-i : goal.invariant-loop-i
invariant-loop-i l =
    (l.at ≤ 900 * l.i) × (length l.joined ≡ length l.initial.joined)
    × (l.at ≡ length (Receiver.joined l.lengths l.parts l.i))
    × ((out : List ℕ) → l.initial.joined ≡ lay (Receiver.joined l.lengths l.parts l.full) out → l.joined ≡ lay (Receiver.joined l.lengths l.parts l.i) out)
