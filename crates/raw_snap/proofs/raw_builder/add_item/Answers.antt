-- `raw_builder::add_item` meets its contract: the form is checked, and `add` does the rest. Assumes nothing.
use mathlib.Core.Path.{◌≡◌, sym, ap, ◌∙◌}
use Prim.Native.Nat.{ℕ}
use mir.Syntax.{w32}
use mir.Val.{to_z, of_z}
use mir.Facts.{to_z-of_z}
use Rattle.definitions.specs.Ints.{bits}
use Rattle.definitions.specs.Tables.{items, key_of}
use Rattle.definitions.specs.TableReading.{add_item}
use Rattle.definitions.specs.TableCalls.{stored_table}
use Rattle.table.specs.Forms.{formed, unformed}
use Rattle.raw_snap.proofs.Calls.{refused-47, in-form}
use Rattle.raw_snap.proofs.raw_builder.add_item.Goals as goal

pub returns-in_default : goal.returns-in_default
returns-in_default c = refused-47 _ _ _ (unformed _ c.in_default.ensures)

pub add-requires : goal.add-requires
add-requires c =
    formed _ _ _ c.in-Some.ensures

pub returns : goal.returns
returns c =
    let key-is : let s = c.args in bits (to_z w32 (of_z w32 c.key.result)) ≡ key_of s.raw_type_id s.id =
    ap bits (to_z-of_z {w = w32} (record { sfits = c.key.type_inv })) ∙ c.key.ensures in
    let s = c.args in
    let a = s.area.now in
    let v = s.«data».now in
    in-form a _ v (formed _ _ _ c.in-Some.ensures).0.shape
    ∙ (ap (λ (k : ℕ). stored_table a (add_item (record { key = k; values = v }) (items a))) (sym (key-is)) ∙ c.add.ensures)
