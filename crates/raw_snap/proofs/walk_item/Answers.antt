-- `raw_snap::walk_item` meets its contract: by the form of the area and the place in the walk. Assumes nothing.
use mathlib.Core.Path.{◌∙◌}
use native.Mathlib.Omega.{arith}
use Rattle.table.specs.Forms.{formed}
use Rattle.raw_snap.proofs.Calls.{no-walk-item, walk-item-is, walk-item-end}
use Rattle.raw_snap.proofs.walk_item.Goals as goal

pub returns-in_default : goal.returns-in_default
returns-in_default c =
    no-walk-item _ c.in_default.ensures _

pub returns-then-form-i : goal.returns-then-form-i
returns-then-form-i c =
    let holding = (formed _ _ _ c.in-Some.ensures).0 in
    walk-item-end _ _ holding _ c.if-form-i.true

pub walk_place-at-requires : goal.walk_place-at-requires
walk_place-at-requires c =
    let holding = (formed _ _ _ c.in-Some.ensures).0 in
    (holding, c.if-form-i.false)

pub data_at-requires : goal.data_at-requires
data_at-requires c =
    let holding = (formed _ _ _ c.in-Some.ensures).0 in
    (holding, omega (arith, c.walk_place-at.ensures.0))

pub returns : goal.returns
returns c =
    let holding = (formed _ _ _ c.in-Some.ensures).0 in
    c.data_at.ensures
    ∙ walk-item-is _ _ holding _ _ c.walk_place-at.ensures.1
