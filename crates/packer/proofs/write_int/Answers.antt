-- `packer::write_int` meets its contract: by the room. Assumes nothing.
use Prim.Native.Nat.{◌+◌, ◌≤◌}
use native.Mathlib.Omega.{arith}
use lib.ListN.{length}
use mir.Facts.{to_z-of_z}
use Rattle.definitions.specs.Packed.{write_int}
use Rattle.packer.proofs.Answers.{full, laid}
use Rattle.std.proofs.Common.{w32}
use Rattle.packer.proofs.write_int.Goals as goal
use Rattle.packer.proofs.write_int.Lts as lts
use Rattle.packer.proofs.write_int.Tie as tie
use Rattle.packer.proofs.write_int.Reads as reads

abbrev Else-out-at-2 : Type 0
Else-out-at-2 = lts.Else2 tie.the-claims reads.Pre reads.Post

pub returns-then-out-at : goal.returns-then-out-at
returns-then-out-at c = let a = c.args in full a.out.now a.at a.int (omega arith)

pub returns-then-out-at-2 : goal.returns-then-out-at-2
returns-then-out-at-2 c =
    let s = c in
    let n = rw (to_z-of_z {w = w32} s.ranges.int) at c.written_len.ensures in
    full s.args.out.now s.args.at s.args.int (omega arith)

-- there is room
fits : (c : Else-out-at-2) → let a = c.args in a.at + length (write_int a.int) ≤ length a.out.now
fits c =
    let s = c in
    let n = rw (to_z-of_z {w = w32} s.ranges.int) at c.written_len.ensures in
    omega arith

pub put_int-requires : goal.put_int-requires
put_int-requires c = rw (to_z-of_z {w = w32} c.ranges.int) (fits c.before)

pub returns : goal.returns
returns c =
    let s = c in
    let e = rw (to_z-of_z {w = w32} s.ranges.int) at c.put_int.ensures in
    laid s.args.out.now s.args.at s.args.int (fits c.before.before.before.before.before) _ _ e.0 e.1
