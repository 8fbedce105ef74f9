-- `checked::updates_fit_above` meets its contract. The loop's invariant: the answer is that for the remaining updates, above the last key.
-- Assumes nothing.
use Prim.Native.Nat.{◌+◌, ◌-◌, ◌≤◌}
use mathlib.Core.Path.{◌≡◌}
use lib.ListN.{length}
use Rattle.definitions.specs.Ints.{bits}
use Rattle.definitions.specs.Deltas.{rank}
use Rattle.delta_form.specs.Held.{updates_form_of}
use Rattle.delta_form.proofs.checked.updates_fit_above.Given as goal

abbrev pub invariant-loop : goal.invariant-loop
invariant-loop l =
    (l.p ≤ length l.area) × (updates_form_of l.sizes l.area l.p (rank (bits l.last) + 1) (l.n - l.counter) ≡ updates_form_of l.sizes l.area l.start (rank (bits l.fn.before) + 1) l.n)
