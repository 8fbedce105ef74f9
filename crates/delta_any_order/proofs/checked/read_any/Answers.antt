-- `checked::read_any` meets its contract: the header is refused, the keys are not all there, or the updates follow. Assumes nothing.
use native.Mathlib.Omega.{arith}
use Rattle.delta_any_order.proofs.Fronting.{refused-most, fronting}
use Rattle.delta_any_order.proofs.Whole.{any-header, any-keys}
use Rattle.delta_any_order.proofs.checked.read_any.Goals as goal

pub returns-in-Err : goal.returns-in-Err
returns-in-Err c = any-header _ _ c.args.out.now c.in-Err.ensures c.refused.ensures

pub overflow_add-header : goal.overflow_add-header
overflow_add-header c =
    let m = refused-most c.in-Ok.ensures c.in-Err-skip_ints.ensures in
    omega (arith, c.requires)

pub overflow_add-front : goal.overflow_add-front
overflow_add-front c = omega (arith, (fronting c.in-Ok.ensures c.in-Ok-skip_ints.ensures).few-overlong, c.requires)

pub read_behind-requires : goal.read_behind-requires
read_behind-requires c = (c.requires, fronting c.in-Ok.ensures c.in-Ok-skip_ints.ensures)

pub returns-in-Err-skip_ints : goal.returns-in-Err-skip_ints
returns-in-Err-skip_ints c = any-keys _ _ c.args.out.now c.in-Ok.ensures c.in-Err-skip_ints.ensures c.refused-in-Err-skip_ints.ensures
