-- `raw_snap::has_item` meets its contract: by the form of the area and the place of the key. Assumes nothing.
use mathlib.Core.Path.{◌≡◌}
use mir.Facts.{to_z-of_z}
use Rattle.definitions.specs.Tables.{items, find, key_of}
use Rattle.table.specs.Held.{data_in}
use Rattle.table.specs.Forms.{formed}
use Rattle.raw_snap.proofs.Calls.{not-held, has-is}
use Rattle.std.proofs.Common.{w32}
use Rattle.raw_snap.proofs.has_item.Goals as goal

pub returns-in_default : goal.returns-in_default
returns-in_default c =
    rw (not-held _ c.in_default.ensures)

pub find-requires : goal.find-requires
find-requires c =
    (formed _ _ _ c.in-Some.ensures).0

pub returns : goal.returns
returns c =
    let a = c.args in
    let looked : find (key_of a.raw_type_id a.id) (items a.area.now) ≡ data_in a.area.now c.in-Some.form.items c.find.result =
    rw (to_z-of_z {w = w32} (record { sfits = c.key.type_inv }), c.key.ensures) at c.find.ensures in
    has-is _ _ (formed _ _ _ c.in-Some.ensures).0 _ _ looked
