use Rattle.std.proofs.Common.{get_or, pos, SFits, to_z-of_z, w32, rules}
use Rattle.packer.proofs.Packing.{begin, room, turn, done}
use Rattle.packer.proofs.checked.pack_at.Goals as goal

pub loop-x-init : goal.loop-x-init
loop-x-init c = let a = c.args in begin a.xs.now a.start a.out.now

pub put_int-at-requires : goal.put_int-at-requires
put_int-at-requires c =
    let f : SFits w32 (get_or c.args.xs.now c.loop-x.x-index (pos 0)) = search rules in
    rw (to_z-of_z {w = w32} f) (room c.loop-x.invariant c.loop-x-test.true c.requires)

pub loop-x-preserved : goal.loop-x-preserved
loop-x-preserved c =
    let f : SFits w32 (get_or c.args.xs.now c.loop-x.x-index (pos 0)) = search rules in
    let e = rw (to_z-of_z {w = w32} f) at c.put_int-at.ensures in
    turn c.loop-x.invariant c.loop-x-test.true _ _ e.0 e.1

pub shape_of-out : goal.shape_of-out
shape_of-out c = c.loop-x.invariant.same

pub returns : goal.returns
returns c = done c.loop-x.invariant c.loop-x-test.false
