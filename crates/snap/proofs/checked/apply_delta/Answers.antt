-- `checked::apply_delta` meets its contract: by the judgement of the areas. Assumes nothing.
use mathlib.Core.Path.{refl, ◌∙◌}
use Rattle.raw_snap.specs.Applied.{refused-leaves}
use Rattle.snap.proofs.Applied.{call-is}
use Rattle.table_reading.specs.Counted.{answered}
use Rattle.snap.proofs.checked.apply_delta.Goals as goal

pub apply_typed-made-requires : goal.apply_typed-made-requires
apply_typed-made-requires c = let h = c.in-Ok.ensures in (h.table, h.changes, h.room)

pub returns-in-Err : goal.returns-in-Err
returns-in-Err c =
    let a = c.args in
    call-is a.base.now a.delta.now a.out.now _ c.in-Err.ensures refl (refused-leaves _ _ _ refl ∙ answered _ c.refused.ensures)

pub returns-in-Ok : goal.returns-in-Ok
returns-in-Ok c =
    let a = c.args in
    call-is a.base.now a.delta.now a.out.now _ c.in-Ok.ensures.is c.apply_typed-made.ensures.0 c.store_made.ensures
