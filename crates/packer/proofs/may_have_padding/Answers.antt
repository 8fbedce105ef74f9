use Rattle.std.proofs.Common.{arith}
use Rattle.packer.proofs.Pretest.{pass, all-passed}
use Rattle.packer.proofs.may_have_padding.Goals as goal

pub loop-p-init : goal.loop-p-init
loop-p-init c = λ e p h here. let z : ⊥ = omega arith in absurd z

pub loop-p-preserved : goal.loop-p-preserved
loop-p-preserved c =
    let l = c.loop-p in
    rw c.is_padded-found.ensures (pass c.args.src.now l.p l.found l.invariant)

pub returns : goal.returns
returns c =
    let l = c.loop-p in
    let src = c.args.src.now in
    all-passed src l.found l.p c.saturating_sub-p-end.result l.invariant c.loop-p-test.false (omega (arith, c.saturating_sub-p-end.ensures))
