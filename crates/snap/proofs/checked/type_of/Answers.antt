-- `checked::type_of` meets its contract: by the number, and then by the item of type 0 with that id. Assumes nothing.
use native.Mathlib.Omega.{arith}
use mathlib.Core.Path.{◌≡◌, sym, ap, ◌∙◌}
use mathlib.Core.List.{[], ◌∷◌}
use mathlib.Core.Option.{some}
use Rattle.definitions.specs.Types.{Uuid, type_id}
use lib.IntN.{ℤ, pos}
use lib.ListN.{length, get_or}
use mir.Facts.{to_z-of_z}
use Rattle.definitions.specs.Outcome.{return}
use Rattle.definitions.specs.Tables.{items, find, key_of}
use Rattle.table.specs.Held.{data_in}
use Rattle.snap.proofs.Naming.{none-zero, small-type, no-kind-item, short-kind, kind-is, same_kind, found_at, not_found}
use Rattle.std.proofs.Common.{w32}
use Rattle.snap.proofs.checked.type_of.Goals as goal

pub returns-then-raw_type_id-eq0 : goal.returns-then-raw_type_id-eq0
returns-then-raw_type_id-eq0 c = ap return (none-zero _ _ c.if-raw_type_id-eq0.true)

pub returns-then-raw_type_id-lt16384 : goal.returns-then-raw_type_id-lt16384
returns-then-raw_type_id-lt16384 c = ap return (small-type _ _ c.if-raw_type_id-eq0.false c.if-raw_type_id-lt16384.true)

pub returns-then-n-at : goal.returns-then-n-at
returns-then-n-at c =
    let a = c.args in
    let looked : find (key_of 0 a.raw_type_id) (items a.area.now) ≡ data_in a.area.now a.n c.find-at.result =
    rw (to_z-of_z {w = w32} (record { sfits = c.key.type_inv }), c.key.ensures) at c.find-at.ensures in
    ap return (no-kind-item _ _ c.if-raw_type_id-eq0.false c.if-raw_type_id-lt16384.false (looked ∙ not_found _ _ _ c.if-n-at.true))

pub returns-then-data-lt4 : goal.returns-then-data-lt4
returns-then-data-lt4 c =
    let a = c.args in
    let looked : find (key_of 0 a.raw_type_id) (items a.area.now) ≡ data_in a.area.now a.n c.find-at.result =
    rw (to_z-of_z {w = w32} (record { sfits = c.key.type_inv }), c.key.ensures) at c.find-at.ensures in
    ap return (short-kind _ _ c.if-raw_type_id-eq0.false c.if-raw_type_id-lt16384.false _ (looked ∙ found_at _ _ _ c.if-n-at.false) (omega (arith, ap (length {A = ℤ}) c.data_at-data.ensures)))

pub returns : goal.returns
returns c =
    let a = c.args in
    let v = c.data_at-data.result.now in
    let looked : find (key_of 0 a.raw_type_id) (items a.area.now) ≡ data_in a.area.now a.n c.find-at.result =
    rw (to_z-of_z {w = w32} (record { sfits = c.key.type_inv }), c.key.ensures) at c.find-at.ensures in
    let is-type : type_id (items a.area.now) a.raw_type_id ≡ some (Uuid (get_or v 0 (pos 0) ∷ get_or v 1 (pos 0) ∷ get_or v 2 (pos 0) ∷ get_or v 3 (pos 0) ∷ [])) =
    kind-is _ _ c.if-raw_type_id-eq0.false c.if-raw_type_id-lt16384.false v (looked ∙ found_at _ _ _ c.if-n-at.false ∙ ap some (sym c.data_at-data.ensures)) c.if-data-lt4.false in
    ap return (is-type ∙ same_kind (sym (to_z-of_z {w = w32} {z = get_or v 0 (pos 0)} (record { sfits = omega arith }))) (sym (to_z-of_z {w = w32} {z = get_or v 1 (pos 0)} (record { sfits = omega arith }))) (sym (to_z-of_z {w = w32} {z = get_or v 2 (pos 0)} (record { sfits = omega arith }))) (sym (to_z-of_z {w = w32} {z = get_or v 3 (pos 0)} (record { sfits = omega arith }))))
