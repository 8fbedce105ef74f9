-- `checked::write_updates` meets its contract. The loop's invariant: with the rest written from here on, the area is as it should be.
-- Assumes nothing.
use Prim.Native.Nat.{◌-◌}
use mathlib.Core.List.{List}
use lib.IntN.{ℤ}
use Rattle.delta_writing.proofs.Writing.{Writing}
use Rattle.delta_writing.proofs.checked.write_updates.Given as goal

abbrev pub invariant-loop : goal.invariant-loop
invariant-loop l = Writing (λ (xs : List ℤ). xs) l.sizes l.area l.start l.n l.first l.initial.out l.out l.at l.p (l.n - l.counter)
