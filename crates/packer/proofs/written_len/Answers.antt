-- `packer::written_len` meets its contract: by the size of the digits. Assumes nothing.
use mathlib.Core.Path.{◌≡◌, sym, ap, ◌∙◌}
use Prim.Native.Nat.{suc}
use native.Mathlib.Omega.{arith}
use lib.ListN.{length}
use lib.Signed.{mag}
use mir.Facts.{to_z-of_z}
use Rattle.packer.proofs.Answers.{one_byte, more_bytes}
use Rattle.packer.proofs.Writes.{two-long, three-long, four-long, five-long}
use Rattle.std.proofs.Common.{w32}
use Rattle.packer.proofs.written_len.Goals as goal

pub returns-then-digits-lt64 : goal.returns-then-digits-lt64
returns-then-digits-lt64 c =
    let s = c in
    let e : c.magnitude-digits.result ≡ mag s.args.int = rw (to_z-of_z {w = w32} s.ranges.int) at c.magnitude-digits.ensures.0 in
    sym (ap length (one_byte s.args.int (omega arith)))

pub returns-then-digits-lt8192 : goal.returns-then-digits-lt8192
returns-then-digits-lt8192 c =
    let s = c in
    let e : c.magnitude-digits.result ≡ mag s.args.int = rw (to_z-of_z {w = w32} s.ranges.int) at c.magnitude-digits.ensures.0 in
    sym (ap length (more_bytes s.args.int (omega arith)) ∙ ap suc (two-long (mag s.args.int) (omega arith)))

pub returns-then-digits-lt1048576 : goal.returns-then-digits-lt1048576
returns-then-digits-lt1048576 c =
    let s = c in
    let e : c.magnitude-digits.result ≡ mag s.args.int = rw (to_z-of_z {w = w32} s.ranges.int) at c.magnitude-digits.ensures.0 in
    sym (ap length (more_bytes s.args.int (omega arith)) ∙ ap suc (three-long (mag s.args.int) (omega arith) (omega arith)))

pub returns-then-digits-lt134217728 : goal.returns-then-digits-lt134217728
returns-then-digits-lt134217728 c =
    let s = c in
    let e : c.magnitude-digits.result ≡ mag s.args.int = rw (to_z-of_z {w = w32} s.ranges.int) at c.magnitude-digits.ensures.0 in
    sym (ap length (more_bytes s.args.int (omega arith)) ∙ ap suc (four-long (mag s.args.int) (omega arith) (omega arith)))

pub returns : goal.returns
returns c =
    let s = c in
    let e : c.magnitude-digits.result ≡ mag s.args.int = rw (to_z-of_z {w = w32} s.ranges.int) at c.magnitude-digits.ensures.0 in
    sym (ap length (more_bytes s.args.int (omega arith)) ∙ ap suc (five-long (mag s.args.int) (omega arith) (omega (arith, s.ranges.int.sfits))))
