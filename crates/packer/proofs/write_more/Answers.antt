use mathlib.Core.Path.{refl}
use native.Mathlib.Omega.{arith}
use lib.ListN.{length-set}
use Rattle.packer.proofs.Writes.{inside, turn, last}
use Rattle.packer.proofs.write_more.Goals as goal

pub loop-left-init : goal.loop-left-init
loop-left-init c = (refl, record { k = 3; few = omega arith; ends = refl; laid = refl })

pub bounds-out-at : goal.bounds-out-at
bounds-out-at c = let l = c.loop-left in inside l.invariant.1 c.requires.1 l.invariant.0

pub overflow_add-at : goal.overflow_add-at
overflow_add-at c =
    let l = c.loop-left in
    let i = inside l.invariant.1 c.requires.1 l.invariant.0 in
    omega arith

pub loop-left-preserved : goal.loop-left-preserved
loop-left-preserved c =
    let l = c.loop-left in
    (simp length-set l.invariant.0, turn l.invariant.1 c.loop-left-test.true (inside l.invariant.1 c.requires.1 l.invariant.0))

pub bounds-out-at-2 : goal.bounds-out-at-2
bounds-out-at-2 c = let l = c.loop-left in inside l.invariant.1 c.requires.1 l.invariant.0

pub overflow_add-result : goal.overflow_add-result
overflow_add-result c =
    let l = c.loop-left in
    let i = inside l.invariant.1 c.requires.1 l.invariant.0 in
    omega arith

pub returns : goal.returns
returns c =
    let l = c.loop-left in
    last l.invariant.1 c.loop-left-test.false (inside l.invariant.1 c.requires.1 l.invariant.0)
