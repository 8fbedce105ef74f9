-- `checked::read_packed` meets its contract: one pass over the bytes, and then one over their ints, or in any order. Assumes nothing.
use mathlib.Core.Path.{refl, sym, ap}
use Prim.Native.Nat.{◌≤◌}
use native.Mathlib.Omega.{arith}
use lib.ListN.{length}
use lib.Seq.{length-take-le}
use Rattle.definitions.specs.Stream.{stream, ints}
use Rattle.laws.specs.AreaLaws.{length-lay}
use Rattle.laws.specs.StreamLaws.{few-ints}
use Rattle.delta.proofs.ReadCalls.{any-bytes, ordered-bytes}
use Rattle.delta.proofs.checked.read_packed.Goals as goal

pub returns-then-all : goal.returns-then-all
returns-then-all c =
    let a = c.args in
    any-bytes a.src.now _ a.sizes.now a.out.now a.out.now _ refl c.read_any.ensures

pub slice_bounds-read_ordered-end : goal.slice_bounds-read_ordered-end
slice_bounds-read_ordered-end c =
    let a = c.args in
    let s = c.scan_all-all.ensures in
    omega (arith, c.requires.1, s.count-is, few-ints a.src.now, ap length s.out-is, length-lay (ints (stream a.src.now)) a.scratch.now)

pub slice_bounds-read_ordered-end-2 : goal.slice_bounds-read_ordered-end-2
slice_bounds-read_ordered-end-2 c =
    let a = c.args in
    let s = c.scan_all-all.ensures in
    let fits : c.scan_all-all.result.count ≤ length c.scan_all-all.new.out =
    omega (arith, c.requires.1, s.count-is, few-ints a.src.now, ap length s.out-is, length-lay (ints (stream a.src.now)) a.scratch.now) in
    sym (length-take-le _ _ fits)

pub returns-in_default : goal.returns-in_default
returns-in_default c =
    let a = c.args in
    any-bytes a.src.now _ a.sizes.now a.out.now _ _ c.in_default.ensures c.read_any-in_default.ensures

pub returns : goal.returns
returns c =
    let a = c.args in
    let s = c.scan_all-all in
    ordered-bytes a.src.now a.scratch.now _ s.result s.ensures a.sizes.now a.out.now _ c.in-Some.ordered _ c.requires.1 c.if-all.false c.if-all-2.false c.in-Some.ensures c.delta.ensures
