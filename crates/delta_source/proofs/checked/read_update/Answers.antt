-- `checked::read_update` meets its contract. Assumes nothing.
use Rattle.std.proofs.Common.{SFits}
use borrow.Author.Rules.{rules}
use Prim.Native.Nat.{◌<◌, ◌^◌}
use native.Mathlib.Omega.{arith}
use mir.Syntax.{w32}
use mir.Facts.{to_z-of_z}
use Rattle.std.proofs.lemmas.Result.{err_from_is_err_and}
use Rattle.delta_source.specs.Source.{source, size}
use Rattle.delta_source.specs.SourceLaws.{size_below}
use Rattle.delta_source.specs.SourceBounds.{counted-most, update-counted, update-most}
use Rattle.delta_source.proofs.Reading.{head-refused, values-refused, update-read}
use Rattle.delta_source.proofs.checked.read_update.Goals as goal

pub returns-in_err-head : goal.returns-in_err-head
returns-in_err-head c =
    let p = err_from_is_err_and c.from_residual.result c.from_residual.ensures.1 in
    rw (p.1, p.2) (head-refused _ c.args.sizes.now c.args.at c.in_err-head.ensures)

pub overflow_add-result : goal.overflow_add-result
overflow_add-result c =
    let a = c.args in
    let small : size (source a.packed a.bytes.now a.ints.now) < 2 ^ 63 = size_below a.packed a.bytes.now a.ints.now (2 ^ 63) (omega arith) (omega arith) in
    omega (arith, update-most (values-refused _ a.sizes.now a.at c.in_ok-head.ensures c.in-Err.ensures), small)

pub overflow_add-result-in-Ok : goal.overflow_add-result-in-Ok
overflow_add-result-in-Ok c =
    let a = c.args in
    let small : size (source a.packed a.bytes.now a.ints.now) < 2 ^ 63 = size_below a.packed a.bytes.now a.ints.now (2 ^ 63) (omega arith) (omega arith) in
    omega (arith, (counted-most (update-counted (update-read _ a.sizes.now a.at c.in_ok-head.ensures c.in-Ok.ensures))).0, small)

pub returns-in-Err : goal.returns-in-Err
returns-in-Err c = values-refused _ c.args.sizes.now c.args.at c.in_ok-head.ensures c.in-Err.ensures

pub returns-in-Ok : goal.returns-in-Ok
returns-in-Ok c =
    let k = c.in_ok-head.head.key in
    rw (to_z-of_z {w = w32} {z = k} (record { sfits = (let it : SFits w32 k = search rules in it).sfits }))
    (update-read _ c.args.sizes.now c.args.at c.in_ok-head.ensures c.in-Ok.ensures)
