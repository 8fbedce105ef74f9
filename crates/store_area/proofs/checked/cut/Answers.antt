-- `checked::cut` meets its contract: the ints after the tables that stay are cleared. Assumes nothing.
use Rattle.store_area.proofs.Laying.{cut-leaves}
use Rattle.store_area.specs.Held.{snaps_in}
use Rattle.store_area.specs.Laid.{laid-leaves}
use Rattle.laws.specs.StoreRoom.{sounds-take, room_take}
use lib.ListN.{take}
use lib.Seq.{length-take-le}
use mathlib.Core.Path.{sym}
use native.Mathlib.Omega.{arith}
use Rattle.store_area.proofs.checked.cut.Goals as goal

pub offset_bounds-area-from : goal.offset_bounds-area-from
offset_bounds-area-from c =
    let r = room_take c.args.left (snaps_in c.args.count c.args.area.now) in
    omega (arith, r, c.place-from.ensures, c.requires.1, c.requires.0.stands.room)

pub slice_bounds-clear-count : goal.slice_bounds-clear-count
slice_bounds-clear-count c =
    let r = room_take c.args.left (snaps_in c.args.count c.args.area.now) in
    omega (arith, r, c.place-from.ensures, c.requires.1, c.requires.0.stands.room)

pub slice_bounds-clear-start : goal.slice_bounds-clear-start
slice_bounds-clear-start c =
    let r = room_take c.args.left (snaps_in c.args.count c.args.area.now) in
    omega (arith, r, c.place-from.ensures, c.requires.1, c.requires.0.stands.room)

pub returns : goal.returns
returns c =
    let p = c in
    let s = c in
    let a = s.args.area.now in
    let n = s.args.left in
    let l = snaps_in s.args.count a in
    let h = s.requires.0 in
    let e = p.place-from.ensures in
    laid-leaves a _ (take n l) (cut-leaves a l h.stands n p.place-from.result s.args.ints _ e s.requires.1 c.clear.ensures)
    (sounds-take n l h.stands.sounds) (omega (arith, room_take n l, h.stands.room)) n p.place-from.result
    (sym (length-take-le n l (omega (arith, h.many, s.requires.2)))) e
