-- `checked::add_ordinal` meets its contract: by the number, and then `add` does the rest. Assumes nothing.
use mathlib.Core.Path.{◌≡◌, sym, ap, ◌∙◌}
use mathlib.Core.Logic.{⊎_elim}
use Prim.Native.Nat.{ℕ}
use mir.Syntax.{w32}
use mir.Val.{to_z, of_z}
use mir.Facts.{to_z-of_z}
use Rattle.definitions.specs.Ints.{bits}
use Rattle.definitions.specs.Tables.{items, key_of}
use Rattle.definitions.specs.TableReading.{add_item}
use Rattle.definitions.specs.TableCalls.{stored_table}
use Rattle.builder.proofs.Adding.{number-zero, number-high, number-adds}
use Rattle.builder.proofs.checked.add_ordinal.Goals as goal

pub returns-then-number-eq0 : goal.returns-then-number-eq0
returns-then-number-eq0 c =
    ⊎_elim (λ e. number-zero _ _ _ _ e) (λ h. number-high _ _ _ _ h.1) c.then-number-eq0.either

pub returns : goal.returns
returns c =
    let a = c.args in
    let key-is : bits (to_z w32 (of_z w32 c.key.result)) ≡ key_of a.number a.id = ap bits (to_z-of_z {w = w32} (record { sfits = c.key.type_inv })) ∙ c.key.ensures in
    number-adds a.area.now a.id a.«data».now a.number c.if-number-eq0.false c.if-number-ge16384.false
    ∙ ap (λ (k : ℕ). stored_table a.area.now (add_item (record { key = k; values = a.«data».now }) (items a.area.now))) (sym key-is)
    ∙ c.add.ensures
