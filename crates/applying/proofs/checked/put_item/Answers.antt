-- `checked::put_item` meets its contract: the item's data is a part that is lent. Assumes nothing.
use Prim.Native.Nat.{◌+◌, ◌-◌}
use mathlib.Core.Path.{refl}
use native.Mathlib.Omega.{arith}
use lib.ListN.{length, length-take, length-drop}
use mir.Facts.{to_z-of_z}
use Rattle.definitions.specs.Ints.{bits}
use Rattle.ints.specs.Copies.{copied}
use Rattle.laws.specs.ApplyFound.{item}
use Rattle.applying.proofs.Putting.{RoomOne, room-one, part-laid, item-written}
use Rattle.std.proofs.Common.{w32}
use Rattle.applying.proofs.checked.put_item.Goals as goal
use Rattle.applying.proofs.checked.put_item.Goals.{Start}

-- the room that there is
one : (s : Start) → RoomOne s.args.n (length s.args.out.now) s.args.m s.args.at (length s.args.values.now)
one s = room-one _ _ _ _ (item (bits s.args.key) s.args.values.now) s.requires

pub put_head-requires : goal.put_head-requires
put_head-requires c =
    let r = one c.before in
    (omega (arith, r.few, r.behind, r.room), r.behind, omega (arith, r.room), omega (arith, r.short))

pub slice_bounds-copy_into-end : goal.slice_bounds-copy_into-end
slice_bounds-copy_into-end c =
    let r = one c.before.before.before in
    omega (arith, r.room, c.put_head.auto.out)

pub returns : goal.returns
returns c =
    let r = one c.before.before.before.before.before.before in
    let v = c.args.values.now in
    item-written c.args.n c.args.m c.args.at c.args.key v c.args.out.now c.put_head.new.out _ c.ranges.key r
    (rw (to_z-of_z {w = w32} c.ranges.key) at c.put_head.ensures)
    (part-laid (c.args.at + 1) (c.args.at + 1 + length v - (c.args.at + 1)) v c.put_head.new.out _ (omega arith) (omega (arith, r.room, c.put_head.auto.out))
    (copied _ 0 _ v _ _ c.copy_into.ensures refl (simp (length-take, length-drop) (omega (arith, r.room, c.put_head.auto.out)))))
