-- `checked::skip_ints` meets its contract. Assumes nothing.
use Prim.Native.Nat.{◌≤◌}
use native.Mathlib.Omega.{arith}
use lib.ListN.{length}
use Rattle.delta_source.proofs.Skipping.{skip-too-few, skip-part}
use Rattle.delta_source.proofs.checked.skip_ints.Goals as goal

pub returns-then-ints-at : goal.returns-then-ints-at
returns-then-ints-at c =
    let a = c.args in
    rw c.if-packed.false (skip-too-few a.bytes.now a.ints.now a.at a.n a.error c.if-ints-at.true)

pub returns : goal.returns
returns c =
    let a = c.args in
    let h : a.at ≤ length a.ints.now = rw c.if-packed.false at c.requires in
    rw c.if-packed.false (skip-part a.bytes.now a.ints.now a.at a.n (omega arith))
