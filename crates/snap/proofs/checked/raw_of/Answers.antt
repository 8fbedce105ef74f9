-- `checked::raw_of` meets its contract: by the type, and for a kind by its number. Assumes nothing.
use Rattle.std.proofs.Common.{SFits, w32}
use Rattle.definitions.specs.Types.{kind_number}
use Rattle.snap.specs.Answers.{number_in, type_of, raw_type_in}
use mathlib.Core.Path.{◌≡◌, ap, ◌∙◌}
use mathlib.Core.List.{[], ◌∷◌}
use mathlib.Core.Logic.{⊎_elim}
use mir.Facts.{to_z-of_z}
use Rattle.definitions.specs.Tables.{items}
use Rattle.snap.specs.declared.TypeId.{TypeId}
use Rattle.snap.proofs.Naming.{ordinal-zero, ordinal-high, ordinal-is, uuid-is}
use borrow.Author.Rules.{rules}
use Rattle.snap.proofs.checked.raw_of.Goals as goal

pub returns-in-Uuid : goal.returns-in-Uuid
returns-in-Uuid c =
    let u = c.in-Uuid in
    let numbered : kind_number (u.a ∷ u.b ∷ u.c ∷ u.d ∷ []) (items c.args.area.now) ≡ number_in c.kind_number.result =
    rw (to_z-of_z {w = w32} (record { sfits = (let it : SFits w32 c.in-Uuid.a = search rules in it).sfits }), to_z-of_z {w = w32} (record { sfits = (let it : SFits w32 c.in-Uuid.b = search rules in it).sfits }), to_z-of_z {w = w32} (record { sfits = (let it : SFits w32 c.in-Uuid.c = search rules in it).sfits }), to_z-of_z {w = w32} (record { sfits = (let it : SFits w32 c.in-Uuid.d = search rules in it).sfits })) at c.kind_number.ensures in
    ap (λ (y : TypeId). raw_type_in (items c.args.area.now) (type_of y)) c.in-Uuid.is ∙ uuid-is _ _ c.kind_number.result numbered

pub returns-then-number-ge16384 : goal.returns-then-number-ge16384
returns-then-number-ge16384 c =
    ap (λ (y : TypeId). raw_type_in (items c.args.area.now) (type_of y)) c.in-Ordinal.is
    ∙ ⊎_elim (λ e. ordinal-zero _ _ e) (λ h. ordinal-high _ _ h.1) c.if-number-ge16384.either

pub returns-else-number-ge16384 : goal.returns-else-number-ge16384
returns-else-number-ge16384 c =
    ap (λ (y : TypeId). raw_type_in (items c.args.area.now) (type_of y)) c.in-Ordinal.is
    ∙ ordinal-is _ _ c.if-number-ge16384.false.0 c.if-number-ge16384.false.1
