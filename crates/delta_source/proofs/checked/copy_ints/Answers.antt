-- `checked::copy_ints` meets its contract. Assumes nothing.
use Prim.Native.Nat.{◌+◌, ◌≤◌}
use native.Mathlib.Omega.{arith}
use lib.ListN.{length}
use Rattle.delta_source.proofs.Skipping.{part-copied, not_there}
use Rattle.delta_source.proofs.checked.copy_ints.Goals as goal

pub returns-then-ints-at : goal.returns-then-ints-at
returns-then-ints-at c =
    let a = c.args in
    rw c.if-packed.false (not_there a.bytes.now a.ints.now a.at a.n a.to a.out.now a.out.now c.if-ints-at.true)

pub returns : goal.returns
returns c =
    let a = c.args in
    let h : a.at ≤ length a.ints.now = rw c.if-packed.false at c.requires.0 in
    let inside : a.at + a.n ≤ length a.ints.now = omega arith in
    rw c.if-packed.false (part-copied a.bytes.now a.ints.now a.at a.n a.to a.out.now _ _ inside c.requires.1 c.copy_into.ensures)
