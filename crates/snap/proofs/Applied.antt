-- The result of storing the table that a delta made, with its warnings. Assumes nothing.
use mathlib.Core.Path.{◌≡◌, sym, ap, ◌∙◌}
use mathlib.Core.List.{List}
use Prim.Native.Nat.{ℕ}
use Rattle.std.specs.Prelude.{Result, Ok, Err, Some}
use lib.IntN.{ℤ}
use Rattle.definitions.specs.Warnings.{Counts}
use Rattle.definitions.specs.Outcome.{Outcome, ok, return, after, ◌>>=◌, Wrote}
use Rattle.definitions.specs.Stored.{stored}
use Rattle.definitions.specs.Tables.{Table, items, table_of}
use Rattle.definitions.specs.TableCalls.{stored_table, write_to_ints_call}
use Rattle.definitions.specs.Applying.{applying}
use Rattle.definitions.specs.Types.{typed, typed_read_with_delta_call}
use Rattle.laws.specs.WarningLaws.{plus_none}
use Rattle.laws.specs.StoredLaws.{counting}
use Rattle.table_reading.specs.Counted.{table-after}
use Rattle.format.specs.Answers.{stored_ints, stored_with, with-counts}
use Rattle.format.specs.declared.Error.{Error}
use Rattle.format.specs.Sources.{typed_counts}
use Rattle.table.specs.Held.{form_of}
use Rattle.table.specs.declared.checked.TableForm.{TableForm}
use Rattle.table.specs.Writing.{is_held}
use Rattle.typed_applying.specs.Answers.{typed_table}
use Rattle.typed_applying.specs.declared.checked.Typed.{Typed}

module _ (out front : List ℤ) (r : Typed) (w : Counts) (q : w ≡ typed_counts r.unknown_delete r.excess) where
  -- it is refused
  pub store-refused : (x : Error) → r.table ≡ Err x → stored_table out (typed_table (items front) r) ≡ record { answer = stored_with (Err x) w; out = out }
  unfolding stored
  store-refused x e = rw (e, q)

  module _ (f : TableForm) (e : r.table ≡ Ok f) (s : Some f ≡ form_of (table_of front)) where
    -- it is copied
    pub store-copied : (a : Result ℕ Error) (last : List ℤ) → write_to_ints_call front out ≡ record { answer = stored_ints a; out = last } → stored_table out (typed_table (items front) r) ≡ record { answer = stored_with a w; out = last }
    store-copied a last c =
        let t : stored_table out (return (items front)) ≡ record { answer = stored_ints a; out = last } = rw (is_held front s) at c in
        let m : typed_table (items front) r ≡ after w (return (items front)) = rw (e, q) (ap (ok (items front)) (sym (plus_none (typed_counts r.unknown_delete r.excess)))) in
        ap (stored_table out) m
        ∙ table-after out w (return (items front))
        ∙ ap (counting w) t
        ∙ ap (λ (o : Outcome ℕ). record { answer = o; out = last }) (with-counts a w)

-- the call, from the result of applying
pub call-is : (base delta out : List ℤ) (scratch : ℕ) {o : Outcome Table} {z : Wrote ℕ ℤ} {t : Outcome Table} → applying base delta scratch ≡ o → (o >>= typed) ≡ t → stored_table out t ≡ z → typed_read_with_delta_call base delta out scratch ≡ z
call-is base delta out scratch e f g = rw (e, f) g
