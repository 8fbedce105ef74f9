-- `checked::unpack` meets its contract: by the two tests, and then by one pass over the bytes. Assumes nothing.
use mathlib.Core.Path.{refl}
use native.Mathlib.Omega.{arith}
use lib.ListN.{length}
use Rattle.raw_snap.proofs.Unpacking.{too_short, shorter, too_long, padded, scanned}
use Rattle.raw_snap.proofs.checked.unpack.Goals as goal

pub returns-then-scratch-lt16384 : goal.returns-then-scratch-lt16384
returns-then-scratch-lt16384 c =
    let a = c.args in
    too_short a.src.now (length a.scratch.now) (omega arith) _ c.refused.ensures

pub returns-then-scratch-src : goal.returns-then-scratch-src
returns-then-scratch-src c =
    let a = c.args in
    shorter a.src.now (length a.scratch.now) (omega arith) (omega arith) _ c.refused-then-scratch-src.ensures

pub returns-then-src-gt1048576 : goal.returns-then-src-gt1048576
returns-then-src-gt1048576 c =
    let a = c.args in
    too_long a.src.now (length a.scratch.now) (omega arith) (omega arith) (omega arith) _ c.refused-then-src-gt1048576.ensures

pub returns-then-all : goal.returns-then-all
returns-then-all c =
    let s = c in
    let a = s.args in
    padded a.src.now (length a.scratch.now) (omega arith) (omega arith) (omega arith) s.scan_all-all.result a.scratch.now _ s.scan_all-all.ensures
    c.if-all.true _ c.packed.ensures

pub returns : goal.returns
returns c =
    let s = c in
    let a = s.args in
    scanned a.src.now (length a.scratch.now) (omega arith) (omega arith) (omega arith) s.scan_all-all.result a.scratch.now _ s.scan_all-all.ensures
    c.if-all.false refl
