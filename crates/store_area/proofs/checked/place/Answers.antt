use Rattle.store_area.proofs.Steps.{place-zero, place-turn, here}
use Rattle.store_area.specs.Held.{snaps_in, snap_at}
use Rattle.store_area.proofs.Places.{Entry}
use native.Mathlib.Omega.{arith}
use Rattle.store_area.proofs.checked.place.Goals as goal
use Rattle.store_area.proofs.checked.place.Lts as lts
use Rattle.store_area.proofs.checked.place.Tie as tie
use Rattle.store_area.proofs.checked.place.Reads as reads

abbrev In-loop : Type 0
In-loop = lts.In-loop tie.the-claims reads.Pre reads.Post goal.the-invariant-loop goal.the-decreases-loop

-- the k-th table is here
stands : (c : In-loop)
    → let l = c.before in let a = l.args.area.now in Entry a l.loop.p (snap_at (snaps_in l.args.count a) l.loop.counter)
stands c =
    let l = c in
    let s = c in
    here s.args.area.now s.args.count s.requires.0 l.loop.counter l.loop.p (omega arith) l.loop.invariant

pub loop-init : goal.loop-init
loop-init c = place-zero (snaps_in c.args.count c.args.area.now)

pub overflow_add-p : goal.overflow_add-p
overflow_add-p c = let e = stands c in omega (arith, e.room)

pub nat_at-requires : goal.nat_at-requires
nat_at-requires c = let e = stands c in omega (arith, e.room)

pub overflow_add-p-in-loop : goal.overflow_add-p-in-loop
overflow_add-p-in-loop c = let e = stands c.before in omega (arith, e.short, e.size_is, c.nat_at.ensures.0)

pub overflow_add-p-in-loop-2 : goal.overflow_add-p-in-loop-2
overflow_add-p-in-loop-2 c = let e = stands c.before in omega (arith, e.room, e.size_is, c.nat_at.ensures.0)

pub loop-preserved : goal.loop-preserved
loop-preserved c =
    let l = c in
    let s = c in
    place-turn s.args.area.now s.args.count s.requires.0 l.loop.counter l.loop.p _ (omega arith) l.loop.invariant c.nat_at.ensures.0
