use Prim.Native.Nat.{◌+◌}
use Rattle.store_area.proofs.Forms.{Walked, walk_start, walk-fails, walk_turn, walk_ends, walk-spoilt}
use native.Mathlib.Omega.{arith}
use Rattle.store_area.proofs.checked.form.Goals as goal
use Rattle.store_area.proofs.checked.form.Lts as lts
use Rattle.store_area.proofs.checked.form.Tie as tie
use Rattle.store_area.proofs.checked.form.Reads as reads

abbrev Else-size-eq0 : Type 0
Else-size-eq0 = lts.Else1 tie.the-claims reads.Pre reads.Post goal.the-invariant-loop goal.the-decreases-loop

-- one more table
turn : (c : Else-size-eq0)
    → let l = c.before.before.before in Walked l.args.area.now l.args.count (l.loop.counter + 1) (l.loop.p + (2 + c.table_size-size.result))
turn c =
    let l = c in
    walk_turn _ _ _ _ l.loop.invariant _ c.table_size-size.ensures c.loop-test.true c.if-size-eq0.false

pub loop-init : goal.loop-init
loop-init c = walk_start _ _

pub returns-then-size-eq0 : goal.returns-then-size-eq0
returns-then-size-eq0 c =
    let l = c in
    walk-fails _ _ _ _ l.loop.invariant _ c.table_size-size.ensures c.loop-test.true c.if-size-eq0.true

pub overflow_add-p : goal.overflow_add-p
overflow_add-p c = let w = turn c in omega (arith, w.room)

pub overflow_add-p-in-loop : goal.overflow_add-p-in-loop
overflow_add-p-in-loop c = let w = turn c in omega (arith, w.room)

pub loop-preserved : goal.loop-preserved
loop-preserved c = turn c

pub returns-then-zeros : goal.returns-then-zeros
returns-then-zeros c =
    let l = c in
    walk_ends _ _ _ _ l.loop.invariant c.loop-test.false _ c.zeros.ensures c.if-zeros.true

pub returns : goal.returns
returns c =
    let l = c in
    walk-spoilt _ _ _ _ l.loop.invariant c.loop-test.false _ c.zeros.ensures c.if-zeros.false
