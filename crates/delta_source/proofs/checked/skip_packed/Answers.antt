use mathlib.Core.Path.{ap, ◌∙◌}
use mathlib.Core.Bool.{true}
use mathlib.Core.List.{[]}
use Prim.Native.Nat.{◌+◌, ◌-◌, ◌≤◌}
use native.Mathlib.Omega.{arith}
use Rattle.std.specs.Prelude.{Ok, Err}
use Rattle.laws.specs.Tests.{at_most_one}
use Rattle.format.specs.Numbers.{number}
use Rattle.packer.specs.Answers.{int_read}
use Rattle.delta_source.specs.Source.{source}
use Rattle.delta_source.proofs.Nexts.{read_next, missing-as}
use Rattle.delta_source.proofs.Skipping.{turn-skip, skipped, stopped-at}
use Rattle.delta_source.proofs.checked.skip_packed.Goals as goal

pub returns-in_default : goal.returns-in_default
returns-in_default c =
    let a = c.args in
    let l = c.loop in
    λ i. stopped-at (source true a.bytes.now i) a.start a.n (number a.error) _ (l.invariant i) (omega arith)
    (read_next a.bytes.now i l.at (Err c.in_default.field-0) (c.read_int-read.ensures ∙ ap int_read c.in_default.is))
    (missing-as (number a.error) c.missing.ensures c.in_default.is)

pub overflow_add-overlong : goal.overflow_add-overlong
overflow_add-overlong c =
    let i = c.loop.invariant [] in
    let o : c.one_if-overlong.result ≤ 1 = rw c.one_if-overlong.ensures (at_most_one c.in-Ok.int.overlong) in
    omega (arith, i.few-overlong, i.inside)

pub loop-preserved : goal.loop-preserved
loop-preserved c =
    let a = c.args in
    let l = c.loop in
    rw c.one_if-overlong.ensures
    (λ i. turn-skip (source true a.bytes.now i) a.start a.n (a.n - (l.counter + 1)) (omega arith) (l.invariant i)
    (read_next a.bytes.now i l.at (Ok c.in-Ok.int) (c.read_int-read.ensures ∙ ap int_read c.in-Ok.is)))

pub returns : goal.returns
returns c = λ i. skipped (source true c.args.bytes.now i) c.args.start c.args.n (c.loop.invariant i) (omega arith)
