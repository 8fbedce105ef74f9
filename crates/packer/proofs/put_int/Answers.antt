-- `packer::put_int` meets its contract: by the extend bit. Assumes nothing.
use mathlib.Core.Path.{◌≡◌, ap, ◌∙◌}
use mathlib.Core.List.{List}
use Prim.Native.Nat.{ℕ, ◌<◌}
use native.Mathlib.Omega.{arith}
use lib.IntN.{ℤ}
use lib.ListN.{length, length-set}
use lib.Signed.{mag}
use mir.Facts.{to_z-of_z}
use Rattle.definitions.specs.Packed.{sign_bit}
use Rattle.laws.specs.Shortest.{length-write_int}
use Rattle.packer.specs.Bytes.{extend_bit}
use Rattle.packer.proofs.Answers.{one_written, room, more-written}
use Rattle.packer.proofs.Writes.{short}
use borrow.Author.Rules.{rules}
use Rattle.std.proofs.Common.{w32}
use Rattle.packer.proofs.put_int.Goals as goal
use Rattle.packer.proofs.put_int.Lts as lts
use Rattle.packer.proofs.put_int.Tie as tie
use Rattle.packer.proofs.put_int.Reads as reads

abbrev After-magnitude-digits : Type 0
After-magnitude-digits = lts.After-magnitude2 tie.the-claims reads.Pre reads.Post

abbrev Start : Type 0
Start = lts.Start tie.the-claims reads.Pre reads.Post

-- the first byte's bits and digits are known
module _ (c : After-magnitude-digits) where
  abbrev start : Start
  start = c.before.before.before.before.before

  abbrev out : List ℕ
  out = start.args.out.now

  abbrev at : ℕ
  at = start.args.at

  abbrev int : ℤ
  int = start.args.int

  extend-is : c.extend_bit-extend.result ≡ extend_bit (mag int)
  extend-is =
      let digits = c.magnitude.ensures.0 in
      c.extend_bit-extend.ensures.0 ∙ ap extend_bit (rw (to_z-of_z {w = w32} start.ranges.int) at digits)

  sign-is : c.sign_bit-sign.result ≡ sign_bit int
  sign-is = rw (to_z-of_z {w = w32} start.ranges.int) at c.sign_bit-sign.ensures.0

  digits_are : c.magnitude-digits.result ≡ mag int
  digits_are = rw (to_z-of_z {w = w32} start.ranges.int) at c.magnitude-digits.ensures.0

  at-most-six : c.extend_bit-extend.result ≡ 0 → c.magnitude-digits.result < 64
  at-most-six none = omega (arith, digits_are, short (mag int) extend-is none)

  inside : at < length out
  inside = omega (arith, start.requires, length-write_int int)

pub overflow_cast-out : goal.overflow_cast-out
overflow_cast-out c =
    let few = at-most-six c.before c.if-extend-eq0.true in
    search rules

pub bounds-out-at : goal.bounds-out-at
bounds-out-at c = inside c.before

pub returns-then-extend-eq0 : goal.returns-then-extend-eq0
returns-then-extend-eq0 c =
    let b = c in
    one_written (out c.before) (at c.before) (int c.before) (start c.before).requires _ _ _ (extend-is c.before) (sign-is c.before) (digits_are c.before) c.if-extend-eq0.true

pub bounds-out-at-2 : goal.bounds-out-at-2
bounds-out-at-2 c = inside c.before

pub write_more-requires : goal.write_more-requires
write_more-requires c =
    let b = c in
    let r = room (out c.before.before) (at c.before.before) (int c.before.before) (start c.before.before).requires _ _ _ (extend-is c.before.before) (sign-is c.before.before) (digits_are c.before.before) c.if-extend-eq0.false in
    (omega arith, simp length-set r)

pub shape_of-out : goal.shape_of-out
shape_of-out c = c.write_more.auto.out ∙ simp length-set

pub returns : goal.returns
returns c =
    let b = c in
    let some = c.if-extend-eq0.false in
    let w = c.write_more.ensures in
    more-written (out c.before.before.before.before.before.before) (at c.before.before.before.before.before.before) (int c.before.before.before.before.before.before) (start c.before.before.before.before.before.before).requires _ _ _ (extend-is c.before.before.before.before.before.before) (sign-is c.before.before.before.before.before.before) (digits_are c.before.before.before.before.before.before) some _ _ w.0 w.1
