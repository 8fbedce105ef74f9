use Rattle.std.proofs.Common.{SFits}
use Rattle.std.specs.Prelude.{Ok, Err}
use borrow.Author.Rules.{rules}
use mathlib.Core.Path.{ap, ◌∙◌}
use mathlib.Core.Bool.{true}
use mir.Syntax.{w32}
use mir.Facts.{to_z-of_z}
use Rattle.packer.specs.Answers.{int_read}
use Rattle.delta_source.specs.Source.{source}
use Rattle.delta_source.proofs.Nexts.{read_next}
use Rattle.delta_source.proofs.Skipping.{start-copy, turn-copy, copied, none_left}
use Rattle.delta_source.proofs.checked.copy_packed.Goals as goal

pub loop-i-init : goal.loop-i-init
loop-i-init c = λ l. start-copy (source true c.args.bytes.now l) c.args.start c.args.n c.args.to c.args.out.now

pub returns-in_default : goal.returns-in_default
returns-in_default c =
    let a = c.args in
    let l = c.loop-i in
    λ i. none_left (source true a.bytes.now i) a.start a.n a.to a.out.now l.out l.at l.i (l.invariant i) c.loop-i-test.true
    (read_next a.bytes.now i l.at (Err c.in_default.field-0) (c.read_int.ensures ∙ ap int_read c.in_default.is)) l.out

pub loop-i-preserved : goal.loop-i-preserved
loop-i-preserved c =
    let a = c.args in
    let l = c.loop-i in
    let z = to_z-of_z {w = w32} {z = c.in-Ok.int.value} (record { sfits = (let it : SFits w32 c.in-Ok.int.value = search rules in it).sfits }) in
    rw z
    (λ i. turn-copy (source true a.bytes.now i) a.start a.n a.to a.out.now l.out l.at l.i (l.invariant i)
    c.loop-i-test.true c.requires.1
    (read_next a.bytes.now i l.at (Ok c.in-Ok.int) (c.read_int.ensures ∙ ap int_read c.in-Ok.is)))

pub returns : goal.returns
returns c =
    let a = c.args in
    let l = c.loop-i in
    λ i. copied (source true a.bytes.now i) a.start a.n a.to a.out.now l.out l.at l.i (l.invariant i) c.loop-i-test.false
