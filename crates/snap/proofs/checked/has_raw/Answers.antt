-- `checked::has_raw` meets its contract: by the place of the key. Assumes nothing.
use mathlib.Core.Path.{◌≡◌, sym, ap, ◌∙◌}
use mir.Facts.{to_z-of_z}
use Rattle.definitions.specs.Tables.{items, find, is_some, key_of}
use Rattle.table.specs.Held.{data_in}
use Rattle.snap.proofs.Naming.{is-within}
use Rattle.std.proofs.Common.{w32}
use Rattle.snap.proofs.checked.has_raw.Goals as goal

pub returns : goal.returns
returns c =
    let a = c.args in
    let looked : find (key_of a.raw_type_id a.id) (items a.area.now) ≡ data_in a.area.now a.n c.find.result =
    rw (to_z-of_z {w = w32} (record { sfits = c.key.type_inv }), c.key.ensures) at c.find.ensures in
    sym (ap is_some looked ∙ is-within a.area.now a.n c.find.result)
