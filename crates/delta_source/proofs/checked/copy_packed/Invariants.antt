-- `checked::copy_packed` meets its contract. The loop's invariant: of the ints that are read, those left are still to be written. Assumes nothing.
use mathlib.Core.Bool.{true}
use mathlib.Core.List.{List}
use lib.IntN.{ℤ}
use Rattle.delta_source.specs.Source.{source}
use Rattle.delta_source.proofs.Skipping.{Copying}
use Rattle.delta_source.proofs.checked.copy_packed.Given as goal

abbrev pub invariant-loop-i : goal.invariant-loop-i
invariant-loop-i l = (l₁ : List ℤ) → Copying (source true l.bytes l₁) l.start l.n l.to l.initial.out l.out l.at l.i
