use native.Mathlib.Omega.{arith}
use Prim.Native.Nat.{◌+◌, ◌-◌, ◌<◌}
use mathlib.Core.Path.{refl, ◌≡◌}
use Rattle.laws.specs.DeltaShape.{first-update}
use Rattle.delta_writing.proofs.Writing.{room, one_written, all-written}
use Rattle.delta_writing.proofs.checked.write_updates.Goals as goal

pub write_update-at-requires : goal.write_update-at-requires
write_update-at-requires c =
    let l = c.loop in
    let t : 0 < c.args.n - c.loop.counter = omega arith in
    (first-update l.invariant.lie t, room (λ xs. xs) refl (λ xs ys. refl) _ _ l.invariant t c.requires.1)

pub next_update-p-requires : goal.next_update-p-requires
next_update-p-requires c = first-update c.loop.invariant.lie (omega arith)

pub loop-preserved : goal.loop-preserved
loop-preserved c =
    let step : c.args.n - (c.loop.counter + 1) ≡ c.args.n - c.loop.counter - 1 = omega arith in
    rw step
    (let e = c.write_update-at.ensures in
    one_written (λ xs. xs) refl (λ xs ys. refl) _ _ c.loop.invariant _ _ _ (omega arith) c.next_update-p.ensures e.0 e.1)

pub returns : goal.returns
returns c = all-written (λ xs. xs) refl (λ xs ys. refl) _ _ c.loop.invariant (omega arith)
