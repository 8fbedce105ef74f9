use mathlib.Core.Path.{ap, ◌∙◌}
use native.Mathlib.Omega.{arith}
use mir.Syntax.{w32}
use mir.Facts.{to_z-of_z}
use mir.Val.{SFits}
use borrow.Author.Rules.{rules}
use Rattle.definitions.specs.Warnings.{none}
use Rattle.definitions.specs.Packed.{warned}
use Rattle.laws.specs.StreamLaws.{found, ended}
use Rattle.format.specs.Numbers.{number}
use Rattle.packer.specs.Answers.{int_read}
use Rattle.packer.proofs.Scanning.{start, turn, at-end, at-refusal}
use Rattle.packer.proofs.checked.scan.Goals as goal

pub loop-at-init : goal.loop-at-init
loop-at-init c = start c.args.src.now c.args.out.now _ c.default-t.ensures

pub shape_of-out-in_default : goal.shape_of-out-in_default
shape_of-out-in_default c = c.loop-at.invariant.same

pub returns-in_default : goal.returns-in_default
returns-in_default c =
    let l = c.loop-at in
    let n = number c.in_default.field-0 in
    let refused = c.read_int-read.ensures ∙ ap int_read c.in_default.is in
    rw (c.stopped.ensures, c.in_default.is) (at-refusal n l.invariant (ended c.args.src.now l.at n none c.loop-at-test.true refused))

pub loop-at-smaller : goal.loop-at-smaller
loop-at-smaller c =
    let i = c.in-Ok.int in
    -- the integer that was read
    let g = found c.args.src.now c.loop-at.at i.value i.next (warned i.overlong) (c.read_int-read.ensures ∙ ap int_read c.in-Ok.is) in
    omega (arith, g.on, g.inside)

pub loop-at-preserved : goal.loop-at-preserved
loop-at-preserved c =
    let i = c.in-Ok.int in
    -- the integer that was read
    let g = found c.args.src.now c.loop-at.at i.value i.next (warned i.overlong) (c.read_int-read.ensures ∙ ap int_read c.in-Ok.is) in
    let fits : SFits w32 i.value = search rules in
    rw (c.put.ensures, c.one_if.ensures, to_z-of_z {w = w32} fits) (turn i.overlong c.loop-at.invariant g)

pub shape_of-out : goal.shape_of-out
shape_of-out c = c.loop-at.invariant.same

pub returns : goal.returns
returns c = at-end c.loop-at.invariant c.loop-at-test.false
