-- `raw_snap::walk_key` meets its contract: by the form of the area and the place in the walk. Assumes nothing.
use mathlib.Core.Path.{sym, ap, ◌∙◌}
use native.Mathlib.Omega.{arith}
use mir.Syntax.{w32}
use mir.Val.{SFits}
use mir.Facts.{to_z-of_z}
use Rattle.definitions.specs.Ints.{from_bits}
use Rattle.laws.specs.IntLaws.{from_bits-bits}
use Rattle.table.specs.Forms.{formed}
use Rattle.raw_snap.proofs.Calls.{not-held, walk-key-is, walk-key-end}
use Rattle.raw_snap.proofs.walk_key.Goals as goal

pub returns-in_default : goal.returns-in_default
returns-in_default c =
    rw (not-held _ c.in_default.ensures)

pub returns-then-form-i : goal.returns-then-form-i
returns-then-form-i c =
    let holding = (formed _ _ _ c.in-Some.ensures).0 in
    walk-key-end _ _ holding _ c.if-form-i.true

pub walk_place-at-requires : goal.walk_place-at-requires
walk_place-at-requires c =
    let holding = (formed _ _ _ c.in-Some.ensures).0 in
    (holding, c.if-form-i.false)

pub key_at-requires : goal.key_at-requires
key_at-requires c =
    let holding = (formed _ _ _ c.in-Some.ensures).0 in
    (holding, omega (arith, c.walk_place-at.ensures.0))

pub returns : goal.returns
returns c =
    let holding = (formed _ _ _ c.in-Some.ensures).0 in
    let f : SFits w32 c.key_at.result = record { sfits = c.key_at.type_inv } in
    rw (to_z-of_z {w = w32} f)
    (walk-key-is _ _ holding _ _ c.walk_place-at.ensures.1 _ (sym (from_bits-bits f) ∙ ap from_bits c.key_at.ensures))
