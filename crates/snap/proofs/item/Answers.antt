-- `snap::item` meets its contract: by the form of the area, the raw type and the place of the key. Assumes nothing.
use mathlib.Core.Path.{◌≡◌, refl, sym, ap, ◌∙◌}
use mir.Facts.{to_z-of_z}
use Rattle.std.proofs.Common.{w32}
use Rattle.definitions.specs.Tables.{items, find, key_of}
use Rattle.definitions.specs.TableCalls.{or_empty}
use Rattle.table.specs.Held.{data_in}
use Rattle.table.specs.Forms.{formed}
use Rattle.snap.proofs.Naming.{found_at, not_found}
use Rattle.snap.proofs.Calls.{no_item, item-other, item-known}
use Rattle.snap.proofs.item.Goals as goal
use Rattle.snap.proofs.item.Goals.{in_default-raw_of-via-in-Ok+in_default, in_default-raw_of-via-in_default}

pub returns-in_default : goal.returns-in_default
returns-in_default c = no_item _ c.in_default.ensures _ _

pub raw_of-requires : goal.raw_of-requires
raw_of-requires c = (formed _ _ _ c.in-Some.ensures).0

pub returns-in_default-raw_of : goal.returns-in_default-raw_of
returns-in_default-raw_of c =
    item-other _ _ (formed _ _ _ c.in-Some.ensures).0 _ _ c.raw_of.result c.raw_of.ensures
    (λ m e. elim c.in_default-raw_of.branch [
      | in_default-raw_of-via-in-Ok+in_default w ↦ cc
      | in_default-raw_of-via-in_default w ↦ cc
    ])

pub find-at-requires : goal.find-at-requires
find-at-requires c = (formed _ _ _ c.in-Some.ensures).0

pub data_at-requires : goal.data_at-requires
data_at-requires c = ((formed _ _ _ c.in-Some.ensures).0, c.if-at-form.true)

pub returns-then-at-form : goal.returns-then-at-form
returns-then-at-form c =
    let a = c.args in
    let looked : find (key_of c.in-Ok-Some.raw a.id) (items a.area.now) ≡ data_in a.area.now c.in-Some.form.items c.find-at.result =
    rw (to_z-of_z {w = w32} (record { sfits = c.key.type_inv }), c.key.ensures) at c.find-at.ensures in
    c.data_at.ensures
    ∙ sym (item-known _ _ (formed _ _ _ c.in-Some.ensures).0 _ _ _ (rw c.in-Ok-Some.field-0-is at c.in-Ok-Some.ensures) _ refl ∙ ap or_empty (looked ∙ found_at _ _ _ c.if-at-form.true))

pub returns : goal.returns
returns c =
    let a = c.args in
    let looked : find (key_of c.in-Ok-Some.raw a.id) (items a.area.now) ≡ data_in a.area.now c.in-Some.form.items c.find-at.result =
    rw (to_z-of_z {w = w32} (record { sfits = c.key.type_inv }), c.key.ensures) at c.find-at.ensures in
    sym (item-known _ _ (formed _ _ _ c.in-Some.ensures).0 _ _ _ (rw c.in-Ok-Some.field-0-is at c.in-Ok-Some.ensures) _ refl ∙ ap or_empty (looked ∙ not_found _ _ _ c.if-at-form.false))
