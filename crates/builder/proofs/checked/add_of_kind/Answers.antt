-- `checked::add_of_kind` meets its contract: by whether the kind has a number. Assumes nothing.
use Rattle.definitions.specs.Builder.{add_of_kind}
use Rattle.builder.proofs.Adding.{four, kind-adds, kind-new}
use mathlib.Core.Path.{◌≡◌, sym, ap, ◌∙◌}
use mathlib.Core.List.{List, [], ◌∷◌}
use mathlib.Core.Option.{some, none}
use Prim.Native.Nat.{ℕ}
use lib.IntN.{ℤ}
use mir.Facts.{to_z-of_z}
use Rattle.definitions.specs.Ints.{bits}
use Rattle.definitions.specs.Tables.{items}
use Rattle.definitions.specs.TableReading.{add_item}
use Rattle.definitions.specs.TableCalls.{stored_table}
use Rattle.definitions.specs.Types.{kind_number}
use Rattle.std.proofs.Common.{w32}
use Rattle.builder.proofs.checked.add_of_kind.Goals as goal

pub returns-in-Some : goal.returns-in-Some
returns-in-Some c =
    let a = c.args in
    let f = c.ranges in
    let numbered : kind_number (a.a ∷ a.b ∷ a.c ∷ a.d ∷ []) (items a.area.now) ≡ some c.in-Some.number =
    rw (to_z-of_z {w = w32} f.a, to_z-of_z {w = w32} f.b, to_z-of_z {w = w32} f.c, to_z-of_z {w = w32} f.d) at c.in-Some.ensures in
    kind-adds a.area.now a.id a.«data».now _ _ numbered
    ∙ ap (λ (k : ℕ). stored_table a.area.now (add_item (record { key = k; values = a.«data».now }) (items a.area.now))) (sym (ap bits (to_z-of_z {w = w32} (record { sfits = c.key.type_inv })) ∙ c.key.ensures))
    ∙ c.add.ensures

pub returns : goal.returns
returns c =
    let a = c.args in
    let f = c.ranges in
    let numbered : kind_number (a.a ∷ a.b ∷ a.c ∷ a.d ∷ []) (items a.area.now) ≡ none =
    rw (to_z-of_z {w = w32} f.a, to_z-of_z {w = w32} f.b, to_z-of_z {w = w32} f.c, to_z-of_z {w = w32} f.d) at c.in_default.ensures in
    kind-new a.area.now a.id a.«data».now _ numbered
    ∙ ap (λ (k : List ℤ). add_of_kind a.area.now (items a.area.now) none k a.id a.«data».now) (four (sym (to_z-of_z {w = w32} f.a)) (sym (to_z-of_z {w = w32} f.b)) (sym (to_z-of_z {w = w32} f.c)) (sym (to_z-of_z {w = w32} f.d)))
    ∙ c.add_with_kind.ensures
