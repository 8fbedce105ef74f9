use Prim.Native.Nat.{◌+◌, ◌≤◌, ◌-◌}
use mathlib.Core.Path.{◌≡◌, refl}
use mathlib.Core.List.{[]}
use native.Mathlib.Omega.{arith}
use lib.ListN.{length}
use Rattle.definitions.specs.Deltas.{update_ints, update_at}
use Rattle.laws.specs.DeltaShape.{first-update}
use Rattle.laws.specs.DeltaWriting.{written-within}
use Rattle.delta_writing.proofs.Writing.{measured-under, one-measured, all-measured, int-length}
use Rattle.delta_writing.proofs.checked.updates_len.Goals as goal
use Rattle.delta_writing.proofs.checked.updates_len.Goals.{After-update_rest-rest}

-- the update at hand
counted : (c : After-update_rest-rest) → 2 + length c.update_rest-rest.result.now ≡ length (update_ints c.args.sizes.now (update_at [] c.args.area.now c.loop.p))
counted c =
    let s = c.args in
    int-length s.sizes.now s.area.now c.loop.p (first-update c.loop.invariant.lie (omega arith)) _ c.update_rest-rest.ensures

-- the whole is no longer than the area
inside : (c : After-update_rest-rest) → c.loop.total + length (update_ints c.args.sizes.now (update_at [] c.args.area.now c.loop.p)) ≤ length c.args.area.now
inside c =
    let s = c.args in
    omega (arith, measured-under (λ xs. xs) refl (λ xs ys. refl) _ _ c.loop.invariant (omega arith), written-within s.sizes.now s.area.now s.start s.n c.requires.0 c.requires.1)

pub overflow_add-total-in-loop : goal.overflow_add-total-in-loop
overflow_add-total-in-loop c = omega (arith, counted c, inside c)

pub loop-preserved : goal.loop-preserved
loop-preserved c =
    let step : c.args.n - (c.loop.counter + 1) ≡ c.args.n - c.loop.counter - 1 = omega arith in
    rw step
    (one-measured (λ xs. xs) refl (λ xs ys. refl) _ _ c.loop.invariant _ _ (omega arith) c.next_update-p.ensures (omega (arith, counted c.before)))

pub returns : goal.returns
returns c = all-measured (λ xs. xs) refl (λ xs ys. refl) _ _ c.loop.invariant (omega arith)
