-- `checked::put_sums` meets its contract: the item's data is a part that is lent. Assumes nothing.
use Prim.Native.Nat.{◌+◌, ◌-◌}
use mathlib.Core.Path.{◌≡◌}
use mathlib.Core.Bool.{cond}
use mathlib.Core.List.{List}
use mathlib.Core.Option.{Option, some, none}
use native.Mathlib.Omega.{arith}
use lib.IntN.{ℤ}
use lib.ListN.{length, length-take, length-drop}
use mir.Facts.{to_z-of_z}
use Rattle.definitions.specs.Ints.{bits}
use Rattle.definitions.specs.DeltaMaking.{sums}
use Rattle.laws.specs.ZipLaws.{length-sums}
use Rattle.laws.specs.ApplyFound.{item}
use Rattle.applying.proofs.Putting.{RoomOne, room-one, part-laid, sums-laid, item-written}
use Rattle.std.proofs.Common.{w32}
use Rattle.applying.proofs.checked.put_sums.Goals as goal
use Rattle.applying.proofs.checked.put_sums.Goals.{Start}

-- the base's data
abbrev base : Start → Option (List ℤ)
base s = cond s.args.has_old (some s.args.old.now) none

-- how long the sums are
long : (s : Start) → length (sums (base s) s.args.more.now) ≡ length s.args.more.now
long s = length-sums (base s) s.args.more.now s.requires.0

-- the room that there is
one : (s : Start) → RoomOne s.args.n (length s.args.out.now) s.args.m s.args.at (length (sums (base s) s.args.more.now))
one s = room-one _ _ _ _ (item (bits s.args.key) (sums (base s) s.args.more.now)) s.requires.1

pub put_head-requires : goal.put_head-requires
put_head-requires c =
    let r = one c.before in
    (omega (arith, r.few, r.behind, r.room), r.behind, omega (arith, r.room), omega (arith, r.short))

pub slice_bounds-apply_item_delta-end : goal.slice_bounds-apply_item_delta-end
slice_bounds-apply_item_delta-end c =
    let r = one c.before.before.before in
    omega (arith, r.room, long c.before.before.before, c.put_head.auto.out)

pub returns : goal.returns
returns c =
    let r = one c.before.before.before.before.before.before in
    let v = c.args.more.now in
    item-written c.args.n c.args.m c.args.at c.args.key (sums (base c.before.before.before.before.before.before) v) c.args.out.now c.put_head.new.out _ c.ranges.key r
    (rw (to_z-of_z {w = w32} c.ranges.key) at c.put_head.ensures)
    (part-laid (c.args.at + 1) (c.args.at + 1 + length v - (c.args.at + 1)) (sums (base c.before.before.before.before.before.before) v) c.put_head.new.out _ (omega (arith, long c.before.before.before.before.before.before)) (omega (arith, r.room, long c.before.before.before.before.before.before, c.put_head.auto.out))
    (sums-laid (base c.before.before.before.before.before.before) v _ _ _ c.requires.0 (simp (length-take, length-drop) (omega (arith, r.room, long c.before.before.before.before.before.before, c.put_head.auto.out))) c.apply_item_delta.ensures))
