use native.Mathlib.Omega.{arith}
use mathlib.Core.Path.{◌≡◌}
use Prim.Native.Nat.{◌+◌, ◌-◌, ◌<◌}
use Rattle.definitions.specs.Packed.{pack_ints}
use Rattle.laws.specs.PackLaws.{pack-append}
use Rattle.laws.specs.DeltaShape.{first-update}
use Rattle.delta_writing.proofs.Writing.{room, one_written, all-written, packed-nothing}
use Rattle.delta_writing.proofs.checked.pack_updates.Goals as goal

pub pack_update-at-requires : goal.pack_update-at-requires
pack_update-at-requires c =
    let l = c.loop in
    let t : 0 < c.args.n - c.loop.counter = omega arith in
    (first-update l.invariant.lie t, room pack_ints packed-nothing pack-append _ _ l.invariant t c.requires.1)

pub loop-preserved : goal.loop-preserved
loop-preserved c =
    let step : c.args.n - (c.loop.counter + 1) ≡ c.args.n - c.loop.counter - 1 = omega arith in
    rw step
    (let e = c.pack_update-at.ensures in
    one_written pack_ints packed-nothing pack-append _ _ c.loop.invariant _ _ _ (omega arith) c.next_update-p.ensures e.0 e.1)

pub returns : goal.returns
returns c = all-written pack_ints packed-nothing pack-append _ _ c.loop.invariant (omega arith)
