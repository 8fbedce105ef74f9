-- A table in form, placed in an index. Assumes nothing.
use mathlib.Core.Path.{◌≡◌, sym, subst, ◌∙◌}
use mathlib.Core.List.{List}
use Rattle.std.specs.Prelude.{Ok, Err}
use Prim.Native.Nat.{ℕ, ◌+◌, ◌-◌, ◌/◌}
use native.Mathlib.Omega.{arith}
use lib.IntN.{ℤ}
use Rattle.definitions.specs.Outcome.{return}
use Rattle.definitions.specs.Tables.{Table, count, size, items}
use Rattle.definitions.specs.TableReading.{read_items}
use Rattle.definitions.specs.Types.{typed}
use Rattle.laws.specs.OutcomeLaws.{ok-value, ok-not-err}
use Rattle.laws.specs.TableShape.{size-aligned}
use Rattle.laws.specs.TableReadBack.{reads}
use Rattle.format.specs.declared.Error.{Error}
use Rattle.table.specs.Held.{Held}
use Rattle.table_reading.specs.Reading.{Ints, AllPlaced, all, refused}
use Rattle.types.specs.declared.checked.Judged.{Judged}
use Rattle.types.specs.Picks.{Picks, picks, table_in, picked-list}
use Rattle.types.specs.Answers.{judged_table}

module _ (a : List ℤ) (n ints : ℕ) (h : Held a n) (t : ints ≡ 2 + count a + size a / 4) where
  -- the items are within the area
  pub form-ints : Ints a n (ints - (2 + n))
  form-ints =
      record {
        count-is = h.count-is;
        size_is = omega (arith, t, h.count-is, size-aligned a h.shape);
        room = omega (arith, t, h.count-is, h.shape.room);
        small = omega (arith, t, h.shape.short);
      }

  all_read : read_items a n ≡ return (items a)
  all_read = unfold items in rw h.count-is (reads a h.shape (count a) (omega arith))

  -- none is refused
  pub none-refused : {len : ℕ} {index : List ℕ} {e : Error} → AllPlaced a n len index (Err e) → ⊥
  none-refused (refused x) = ok-not-err (sym all_read ∙ x)

  pub form-picks : {len : ℕ} {index : List ℕ} → AllPlaced a n len index (Ok tt) → Picks a n index
  form-picks (all x) = picks x

  -- the index has the area's table
  same-table : (index : List ℕ) → Picks a n index → table_in a n index ≡ items a
  same-table index x =
      sym (picked-list a n _ index x.indexed) ∙ ok-value (sym x.indexed.read ∙ all_read)

  pub form-judged : (index : List ℕ) (r : Judged) → Picks a n index → typed (table_in a n index) ≡ judged_table (table_in a n index) r → typed (items a) ≡ judged_table (items a) r
  form-judged index r x e = subst (λ (u : Table). typed u ≡ judged_table u r) (same-table index x) e
