-- `table_text::put_table` meets its contract, by the form of the area. Assumes nothing.
use mathlib.Core.Path.{sym}
use mir.Facts.{to_z-of_z}
use Rattle.definitions.specs.Tables.{table_of}
use Rattle.table.specs.Held.{form_of}
use Rattle.table.specs.Forms.{formed}
use Rattle.table.specs.Writing.{not-held, is_held}
use Rattle.table_text.proofs.Texts.{table-put, held-text}
use Rattle.std.proofs.Common.{w32}
use Rattle.table_text.proofs.put_table.Goals as goal

pub returns-in_default : goal.returns-in_default
returns-in_default c = held-text _ (not-held _ c.in_default.ensures) c.put_refusal.ensures

pub crc-requires : goal.crc-requires
crc-requires c = (formed _ _ _ c.in-Some.ensures).0

pub put_items-requires : goal.put_items-requires
put_items-requires c = (formed _ _ _ c.in-Some.ensures).0

pub returns : goal.returns
returns c =
    let e = c.in-Some.ensures in
    let k = c.crc in
    held-text _ (is_held _ e)
    (table-put _ _ (formed _ _ _ e).0 k.result _ k.ensures (rw (to_z-of_z {w = w32} (record { sfits = k.type_inv })) at c.put_heading-end.ensures) c.put_items.ensures)
