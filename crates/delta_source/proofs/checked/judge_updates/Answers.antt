use mathlib.Core.Path.{sym, ◌∙◌}
use Prim.Native.Nat.{◌<◌, ◌^◌}
use native.Mathlib.Omega.{arith}
use Rattle.delta_source.specs.Source.{source, size}
use Rattle.delta_source.specs.SourceLaws.{size_below}
use Rattle.delta_source.proofs.Judging.{start-judging, turn-judging, all-judged, one-refused, refused-sum, update-sums}
use Rattle.delta_source.proofs.checked.judge_updates.Goals as goal

pub loop-refusal-init : goal.loop-refusal-init
loop-refusal-init c = start-judging _ c.args.sizes.now c.args.at c.requires

pub overflow_add-result : goal.overflow_add-result
overflow_add-result c =
    let a = c.args in
    let small : size (source a.packed a.bytes.now a.ints.now) < 2 ^ 63 = size_below a.packed a.bytes.now a.ints.now (2 ^ 63) (omega arith) (omega arith) in
    omega (arith, refused-sum _ _ _ c.loop-refusal.invariant c.in-Err.ensures, small)

pub returns-in-Err : goal.returns-in-Err
returns-in-Err c =
    let more = sym c.at_end.ensures ∙ c.loop-refusal-test.true in
    one-refused _ c.args.sizes.now c.args.at c.loop-refusal.invariant more c.in-Err.ensures

pub overflow_add-t-in-Ok : goal.overflow_add-t-in-Ok
overflow_add-t-in-Ok c =
    let a = c.args in
    let small : size (source a.packed a.bytes.now a.ints.now) < 2 ^ 63 = size_below a.packed a.bytes.now a.ints.now (2 ^ 63) (omega arith) (omega arith) in
    let m = update-sums _ _ _ c.loop-refusal.invariant c.in-Ok.ensures in
    omega (arith, m.1, small)

pub overflow_add-t-in-Ok-2 : goal.overflow_add-t-in-Ok-2
overflow_add-t-in-Ok-2 c =
    let a = c.args in
    let small : size (source a.packed a.bytes.now a.ints.now) < 2 ^ 63 = size_below a.packed a.bytes.now a.ints.now (2 ^ 63) (omega arith) (omega arith) in
    let m = update-sums _ _ _ c.loop-refusal.invariant c.in-Ok.ensures in
    omega (arith, m.1, small)

pub overflow_add-t-in-Ok-3 : goal.overflow_add-t-in-Ok-3
overflow_add-t-in-Ok-3 c =
    let a = c.args in
    let small : size (source a.packed a.bytes.now a.ints.now) < 2 ^ 63 = size_below a.packed a.bytes.now a.ints.now (2 ^ 63) (omega arith) (omega arith) in
    let m = update-sums _ _ _ c.loop-refusal.invariant c.in-Ok.ensures in
    omega (arith, m.0, small)

pub loop-refusal-preserved : goal.loop-refusal-preserved
loop-refusal-preserved c =
    let more = sym c.at_end.ensures ∙ c.loop-refusal-test.true in
    turn-judging _ c.args.sizes.now c.args.at c.loop-refusal.invariant more c.in-Ok.ensures

pub returns : goal.returns
returns c = all-judged _ c.args.sizes.now c.args.at c.loop-refusal.invariant (sym c.at_end.ensures ∙ c.loop-refusal-test.false)
