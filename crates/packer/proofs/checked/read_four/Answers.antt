-- `packer::checked::read_four` meets its contract: each byte by its weight. Assumes nothing.
use mathlib.Core.Path.{refl, sym, ap, ◌∙◌}
use mathlib.Core.Logic.{inl, inr}
use Prim.Native.Nat.{◌+◌}
use native.Mathlib.Omega.{arith}
use Rattle.packer.specs.Answers.{int_read}
use Rattle.packer.proofs.Steps.{two, three, four, from_second, from-third, from-fourth, more-last, second, third, fourth, last}
use Rattle.packer.proofs.checked.read_four.Goals as goal

pub returns-then-b1-lt128 : goal.returns-then-b1-lt128
returns-then-b1-lt128 c =
    let a = c.args in
    let src = a.src.now in
    let pre = c.requires in
    more-last src a.start a.first a.sign (omega arith) second (omega arith) (inl c.if-b1-lt128.true)
    ∙ sym (ap int_read c.last_byte.ensures)

pub returns-then-b2-lt128 : goal.returns-then-b2-lt128
returns-then-b2-lt128 c =
    let a = c.args in
    let src = a.src.now in
    let pre = c.requires in
    from_second src a.start a.first a.sign pre.0 c.if-b1-lt128.false
    ∙ more-last src (a.start + 1) (two src a.start a.first) a.sign (omega arith) third (omega arith) (inl c.if-b2-lt128.true)
    ∙ sym (ap int_read c.last_byte-then-b2-lt128.ensures)

pub returns-then-b3-lt128 : goal.returns-then-b3-lt128
returns-then-b3-lt128 c =
    let a = c.args in
    let src = a.src.now in
    let pre = c.requires in
    from-third src a.start a.first a.sign pre.0 c.if-b1-lt128.false c.if-b2-lt128.false
    ∙ more-last src (a.start + 1 + 1) (three src a.start a.first) a.sign (omega arith) fourth (omega arith) (inl c.if-b3-lt128.true)
    ∙ sym (ap int_read c.last_byte-then-b3-lt128.ensures)

pub returns : goal.returns
returns c =
    let a = c.args in
    let src = a.src.now in
    let pre = c.requires in
    from-fourth src a.start a.first a.sign pre.0
    c.if-b1-lt128.false c.if-b2-lt128.false c.if-b3-lt128.false
    ∙ more-last src (a.start + 1 + 1 + 1) (four src a.start a.first) a.sign (omega arith) last (omega arith) (inr refl)
    ∙ sym (ap int_read c.last_byte-2.ensures)
