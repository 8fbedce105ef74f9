-- `checked::updates_len` meets its contract. The loop's invariant: the ints counted, and those of the updates left, add up to the whole.
-- Assumes nothing.
use Prim.Native.Nat.{◌-◌}
use mathlib.Core.List.{List}
use lib.IntN.{ℤ}
use Rattle.delta_writing.proofs.Writing.{Measuring}
use Rattle.delta_writing.proofs.checked.updates_len.Given as goal

abbrev pub invariant-loop : goal.invariant-loop
invariant-loop l = Measuring (λ (xs : List ℤ). xs) l.sizes l.area l.start l.n l.total l.p (l.n - l.counter)
