-- `checked::table_at` meets its contract: the ints after the table's tick and int count. Assumes nothing.
use Prim.Native.Nat.{ℕ, ◌+◌, ◌-◌}
use Rattle.definitions.specs.Tables.{written}
use Rattle.store_area.proofs.Steps.{here}
use Rattle.store_area.specs.Held.{snaps_in, snap_at}
use Rattle.store_area.proofs.Places.{Entry}
use lib.ListN.{length, take, drop}
use mathlib.Core.Path.{◌≡◌, ap, ◌∙◌}
use native.Mathlib.Omega.{arith}
use Rattle.store_area.proofs.checked.table_at.Goals as goal
use Rattle.store_area.proofs.checked.table_at.Lts as lts
use Rattle.store_area.proofs.checked.table_at.Tie as tie
use Rattle.store_area.proofs.checked.table_at.Reads as reads

abbrev After-place-p : Type 0
After-place-p = lts.After-place tie.the-claims reads.Pre reads.Post

-- the table is here
stands : (c : After-place-p) → let s = c.args in Entry s.area.now c.place-p.result (snap_at (snaps_in s.count s.area.now) s.i)
stands c =
    let s = c in
    here s.args.area.now s.args.count s.requires.0 s.args.i c.place-p.result s.requires.1 c.place-p.ensures

pub overflow_add-from : goal.overflow_add-from
overflow_add-from c = let e = stands c in omega (arith, e.room)

pub overflow_add-p : goal.overflow_add-p
overflow_add-p c = let e = stands c in omega (arith, e.room)

pub nat_at-size-requires : goal.nat_at-size-requires
nat_at-size-requires c = let e = stands c in omega (arith, e.room)

pub overflow_add-result : goal.overflow_add-result
overflow_add-result c = let e = stands c.before in omega (arith, e.room, e.size_is, c.nat_at-size.ensures.0)

pub offset_bounds-area-from : goal.offset_bounds-area-from
offset_bounds-area-from c = let e = stands c.before in omega (arith, e.room, e.size_is, c.nat_at-size.ensures.0)

pub slice_bounds-result-end : goal.slice_bounds-result-end
slice_bounds-result-end c = let e = stands c.before in omega (arith, e.room, e.size_is, c.nat_at-size.ensures.0)

pub returns : goal.returns
returns c =
    let q = c in
    let p = q.place-p.result in
    let x = q.args in
    let e = stands c.before.before in
    let n = c.nat_at-size in
    let t = (snap_at (snaps_in x.count x.area.now) x.i).snap in
    let k : p + 2 + n.result - (p + 2) ≡ length (written t) = omega (arith, e.size_is, n.ensures.0) in
    ap (λ (n : ℕ). take n (drop (p + 2) x.area.now)) k ∙ e.table_is
