-- `checked::store_made` meets its contract: by what the delta made. Assumes nothing.
use mathlib.Core.Path.{◌≡◌}
use Rattle.std.specs.Prelude.{Some}
use Rattle.definitions.specs.Tables.{table_of}
use Rattle.table.specs.Held.{form_of}
use Rattle.raw_snap.specs.Applied.{form-counted}
use Rattle.snap.proofs.Applied.{store-refused, store-copied}
use Rattle.snap.proofs.checked.store_made.Goals as goal

pub copy_table-requires : goal.copy_table-requires
copy_table-requires c = form-counted _ _ _ (rw c.in-Ok.is at c.requires)

pub returns-in-Err : goal.returns-in-Err
returns-in-Err c =
    let a = c.args in store-refused a.out.now a.area.now a.made _ c.applied-warnings.ensures _ c.in-Err.is

pub returns-in-Ok : goal.returns-in-Ok
returns-in-Ok c =
    let a = c.args in
    let stands : Some c.in-Ok.form ≡ form_of (table_of a.area.now) = rw c.in-Ok.is at c.requires in
    store-copied a.out.now a.area.now a.made _ c.applied-warnings.ensures _ c.in-Ok.is stands c.copy_table.result _ c.copy_table.ensures
