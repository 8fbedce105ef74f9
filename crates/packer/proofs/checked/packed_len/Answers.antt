use Rattle.std.proofs.Common.{get_or, pos, SFits, arith, to_z-of_z, w32, rules}
use Rattle.laws.specs.PackLaws.{length-pack_ints, pack-length}
use Rattle.packer.proofs.Packing.{none_left}
use Rattle.packer.proofs.checked.packed_len.Goals as goal

pub overflow_add-n : goal.overflow_add-n
overflow_add-n c =
    let xs = c.args.xs.now in
    let i = c.loop-x.x-index in
    let f : SFits w32 (get_or xs i (pos 0)) = search rules in
    let n = rw (to_z-of_z {w = w32} f) at c.written_len-n.ensures in
    omega (arith, n, pack-length xs i c.loop-x-test.true, length-pack_ints xs)

pub loop-x-preserved : goal.loop-x-preserved
loop-x-preserved c =
    let xs = c.args.xs.now in
    let i = c.loop-x.x-index in
    let f : SFits w32 (get_or xs i (pos 0)) = search rules in
    let n = rw (to_z-of_z {w = w32} f) at c.written_len-n.ensures in
    omega (arith, n, pack-length xs i c.loop-x-test.true)

pub returns : goal.returns
returns c = omega (arith, none_left c.args.xs.now c.loop-x.x-index c.loop-x-test.false)
