-- `raw_snap::item` meets its contract: by the form of the area and the place of the key. Assumes nothing.
use mathlib.Core.Path.{◌≡◌, ◌∙◌}
use native.Mathlib.Omega.{arith}
use mir.Facts.{to_z-of_z}
use Rattle.definitions.specs.Tables.{items, find, key_of}
use Rattle.table.specs.Held.{data_in}
use Rattle.table.specs.Forms.{formed}
use Rattle.raw_snap.proofs.Calls.{no_item, item-found, item-missing}
use Rattle.std.proofs.Common.{w32}
use Rattle.raw_snap.proofs.item.Goals as goal

pub returns-in_default : goal.returns-in_default
returns-in_default c =
    no_item _ c.in_default.ensures _

pub find-at-requires : goal.find-at-requires
find-at-requires c =
    (formed _ _ _ c.in-Some.ensures).0

pub data_at-requires : goal.data_at-requires
data_at-requires c =
    let holding = (formed _ _ _ c.in-Some.ensures).0 in
    (holding, omega arith)

pub returns-then-at-form : goal.returns-then-at-form
returns-then-at-form c =
    let holding = (formed _ _ _ c.in-Some.ensures).0 in
    let looked : let s = c in find (key_of s.args.raw_type_id s.args.id) (items s.args.area.now) ≡ data_in s.args.area.now c.in-Some.form.items c.find-at.result =
    rw (to_z-of_z {w = w32} (record { sfits = c.key.type_inv }), c.key.ensures) at c.find-at.ensures in
    c.data_at.ensures
    ∙ item-found _ _ holding _ _ (looked) c.if-at-form.true

pub returns : goal.returns
returns c =
    let holding = (formed _ _ _ c.in-Some.ensures).0 in
    let looked : let s = c in find (key_of s.args.raw_type_id s.args.id) (items s.args.area.now) ≡ data_in s.args.area.now c.in-Some.form.items c.find-at.result =
    rw (to_z-of_z {w = w32} (record { sfits = c.key.type_inv }), c.key.ensures) at c.find-at.ensures in
    item-missing _ _ holding _ _ (looked) c.if-at-form.false
