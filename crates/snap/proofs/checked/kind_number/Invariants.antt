-- `checked::kind_number` meets its contract. The loop's invariant: the items from i on determine the number. Assumes nothing.
use mathlib.Core.Path.{◌≡◌}
use mathlib.Core.List.{[], ◌∷◌}
use Prim.Native.Nat.{◌-◌}
use Rattle.definitions.specs.Tables.{item_at, items}
use Rattle.definitions.specs.Types.{kind_number}
use Rattle.types.specs.Picks.{seg}
use Rattle.snap.proofs.checked.kind_number.Given as goal

abbrev pub invariant-loop-i : goal.invariant-loop-i
invariant-loop-i l =
    kind_number (l.fn.a ∷ l.fn.b ∷ l.fn.c ∷ l.fn.d ∷ []) (seg (item_at l.area) l.i (l.n - l.i)) ≡ kind_number (l.fn.a ∷ l.fn.b ∷ l.fn.c ∷ l.fn.d ∷ []) (items l.area)
