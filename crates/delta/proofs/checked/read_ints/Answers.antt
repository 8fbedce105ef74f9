-- `checked::read_ints` meets its contract: in one pass, or in any order. Assumes nothing.
use mathlib.Core.List.{[]}
use Rattle.delta.proofs.ReadCalls.{any-ints, ordered-ints}
use Rattle.delta.proofs.checked.read_ints.Goals as goal

pub returns-in_default : goal.returns-in_default
returns-in_default c =
    let a = c.args in
    any-ints [] a.src.now a.sizes.now a.out.now _ _ c.in_default.ensures c.read_any.ensures

pub returns : goal.returns
returns c =
    let a = c.args in
    ordered-ints a.sizes.now a.src.now a.out.now _ c.in-Some.ordered c.in-Some.ensures _ c.delta.ensures
