use Rattle.std.proofs.Common.{length, get_or, pos, SFits, sym, arith, to_z-of_z, w32, le-leb, rules}
use borrow.Author.Tests.{lt-leb}
use Rattle.definitions.specs.Packed.{pack_ints}
use Rattle.laws.specs.PackLaws.{length-pack_ints, pack-length}
use Rattle.packer.proofs.Packing.{none_left}
use Rattle.packer.proofs.packs_into.Goals as goal

pub returns-then-src-room : goal.returns-then-src-room
returns-then-src-room c =
    let a = c.args in
    sym (le-leb (length (pack_ints a.src.now)) a.room (omega (arith, length-pack_ints a.src.now)))

pub returns-then-left-n : goal.returns-then-left-n
returns-then-left-n c =
    let a = c.args in
    let src = a.src.now in
    let i = c.loop-int.int-index in
    let f : SFits w32 (get_or src i (pos 0)) = search rules in
    let n = rw (to_z-of_z {w = w32} f) at c.written_len-n.ensures in
    sym (lt-leb (length (pack_ints src)) a.room (omega (arith, n, pack-length src i c.loop-int-test.true)))

pub loop-int-preserved : goal.loop-int-preserved
loop-int-preserved c =
    let src = c.args.src.now in
    let i = c.loop-int.int-index in
    let f : SFits w32 (get_or src i (pos 0)) = search rules in
    let n = rw (to_z-of_z {w = w32} f) at c.written_len-n.ensures in
    omega (arith, n, pack-length src i c.loop-int-test.true)

pub returns : goal.returns
returns c =
    let a = c.args in
    let e = none_left a.src.now c.loop-int.int-index c.loop-int-test.false in
    sym (le-leb (length (pack_ints a.src.now)) a.room (omega arith))
