use mathlib.Core.Path.{◌≡◌}
use Prim.Native.Nat.{◌+◌, ◌-◌, ◌<◌}
use native.Mathlib.Omega.{arith}
use Rattle.laws.specs.DeltaShape.{first-update}
use Rattle.delta_reading.proofs.Turns.{room, one_written, all-written}
use Rattle.delta_reading.proofs.checked.write_updates.Goals as goal

pub write_update-at-requires : goal.write_update-at-requires
write_update-at-requires c =
    let l = c.loop in
    let t : 0 < c.args.n - c.loop.counter = omega arith in
    (first-update l.invariant.lie t, room _ _ l.invariant t c.requires.1)

pub update_end-p-requires : goal.update_end-p-requires
update_end-p-requires c =
    let u = first-update c.loop.invariant.lie (omega arith) in
    (omega (arith, u.head), u.begins)

pub loop-preserved : goal.loop-preserved
loop-preserved c =
    let step : c.args.n - (c.loop.counter + 1) ≡ c.args.n - c.loop.counter - 1 = omega arith in
    rw step
    (let e = c.write_update-at.ensures in
    one_written _ _ c.loop.invariant _ _ _ (omega arith) c.update_end-p.ensures e.0 e.1)

pub returns : goal.returns
returns c = all-written _ _ c.loop.invariant (omega arith)
