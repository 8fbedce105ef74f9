-- `builder::add_item` meets its contract: by the form of a builder's table, and by the type. Assumes nothing.
use Rattle.std.proofs.Common.{SFits, w32}
use mathlib.Core.Path.{sym, ap, ◌∙◌}
use mathlib.Core.List.{List}
use lib.IntN.{ℤ}
use mir.Facts.{to_z-of_z}
use Rattle.definitions.specs.Types.{Uuid}
use Rattle.snap.specs.declared.TypeId.{TypeId}
use Rattle.snap.specs.Answers.{type_of}
use Rattle.builder.specs.Building.{added_as}
use Rattle.builder.proofs.Adding.{call-bad, call-built, four}
use borrow.Author.Rules.{rules}
use Rattle.builder.proofs.add_item.Goals as goal

pub returns-in_default : goal.returns-in_default
returns-in_default c = call-bad _ _ _ _ c.in_default.ensures

pub add_ordinal-requires : goal.add_ordinal-requires
add_ordinal-requires c =
    let b = c.in-Some.ensures in (b.held, b.takes)

pub add_of_kind-requires : goal.add_of_kind-requires
add_of_kind-requires c = c.in-Some.ensures

pub returns-in-Ordinal : goal.returns-in-Ordinal
returns-in-Ordinal c =
    let a = c.args in
    call-built a.area.now a.id a.«data».now _ _ _ _ c.in-Some.ensures
    ∙ ap (λ (y : TypeId). added_as a.area.now (type_of y) a.id a.«data».now) c.in-Ordinal.is
    ∙ c.add_ordinal.ensures

pub returns-in-Uuid : goal.returns-in-Uuid
returns-in-Uuid c =
    let a = c.args in
    call-built a.area.now a.id a.«data».now _ _ _ _ c.in-Some.ensures
    ∙ ap (λ (y : TypeId). added_as a.area.now (type_of y) a.id a.«data».now) c.in-Uuid.is
    ∙ ap (λ (l : List ℤ). added_as a.area.now (Uuid l) a.id a.«data».now) (four (sym (to_z-of_z {w = w32} (record { sfits = (let it : SFits w32 c.in-Uuid.a = search rules in it).sfits }))) (sym (to_z-of_z {w = w32} (record { sfits = (let it : SFits w32 c.in-Uuid.b = search rules in it).sfits }))) (sym (to_z-of_z {w = w32} (record { sfits = (let it : SFits w32 c.in-Uuid.c = search rules in it).sfits }))) (sym (to_z-of_z {w = w32} (record { sfits = (let it : SFits w32 c.in-Uuid.d = search rules in it).sfits }))))
    ∙ c.add_of_kind.ensures
