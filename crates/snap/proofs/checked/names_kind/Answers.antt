-- `checked::names_kind` meets its contract: by the type, and then by the data. Assumes nothing.
use mathlib.Core.Path.{◌≡◌, sym, ap, ◌∙◌}
use Prim.Native.Nat.{ℕ, ◌/◌}
use lib.IntN.{ℤ}
use mir.Facts.{to_z-of_z}
use borrow.Author.Tests.{ne_eqb}
use Rattle.definitions.specs.Ints.{bits}
use Rattle.definitions.specs.Tables.{key_at}
use Rattle.snap.proofs.Naming.{other-type, type-zero}
use Rattle.std.proofs.Common.{w32}
use Rattle.snap.proofs.checked.names_kind.Goals as goal

pub returns-then-key_to_raw_type_id-eq0 : goal.returns-then-key_to_raw_type_id-eq0
returns-then-key_to_raw_type_id-eq0 c =
    let f = c.ranges in
    let type-is : c.key_to_raw_type_id.result ≡ key_at c.args.area.now c.args.i / 65536 = c.key_to_raw_type_id.ensures ∙ ap (λ (z : ℤ). bits z / 65536) (to_z-of_z {w = w32} (record { sfits = c.key_at.type_inv })) ∙ ap (λ (k : ℕ). k / 65536) c.key_at.ensures in
    type-zero _ _ (sym type-is ∙ c.if-key_to_raw_type_id-eq0.true) _ (c.names.ensures ∙ rw (to_z-of_z {w = w32} f.a, to_z-of_z {w = w32} f.b, to_z-of_z {w = w32} f.c, to_z-of_z {w = w32} f.d, c.data_at.ensures))

pub returns-else-key_to_raw_type_id-eq0 : goal.returns-else-key_to_raw_type_id-eq0
returns-else-key_to_raw_type_id-eq0 c =
    let type-is : c.key_to_raw_type_id.result ≡ key_at c.args.area.now c.args.i / 65536 = c.key_to_raw_type_id.ensures ∙ ap (λ (z : ℤ). bits z / 65536) (to_z-of_z {w = w32} (record { sfits = c.key_at.type_inv })) ∙ ap (λ (k : ℕ). k / 65536) c.key_at.ensures in
    ne_eqb _ _ c.if-key_to_raw_type_id-eq0.false ∙ other-type _ _ (λ e. c.if-key_to_raw_type_id-eq0.false (type-is ∙ e))
