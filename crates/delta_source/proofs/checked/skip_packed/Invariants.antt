-- `checked::skip_packed` meets its contract. The loop's invariant: those skipped so far, followed by what is left, are the whole. Assumes nothing.
use mathlib.Core.Bool.{true}
use mathlib.Core.List.{List}
use Prim.Native.Nat.{◌-◌}
use lib.IntN.{ℤ}
use Rattle.delta_source.specs.Source.{source}
use Rattle.delta_source.proofs.Skipping.{Skipping}
use Rattle.delta_source.proofs.checked.skip_packed.Given as goal

abbrev pub invariant-loop : goal.invariant-loop
invariant-loop l = (i : List ℤ) → Skipping (source true l.bytes i) l.start l.n l.at (l.n - l.counter) l.overlong
