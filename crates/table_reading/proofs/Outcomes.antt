-- The result of reading a table of ints, by its header or its form. Assumes nothing.
use mathlib.Core.Path.{◌≡◌, sym, ap, subst, ◌∙◌}
use mathlib.Core.Bool.{Bool, false}
use mathlib.Core.List.{List}
use Prim.Native.Nat.{ℕ}
use lib.Dec.{ltb}
use lib.IntN.{ℤ}
use lib.ListN.{length, take}
use Rattle.definitions.specs.Warnings.{ExcessSnapData}
use Rattle.definitions.specs.Outcome.{Outcome, return, warn_if, ◌>>◌}
use Rattle.definitions.specs.Stored.{stored}
use Rattle.definitions.specs.Tables.{Table, written, items, table_of}
use Rattle.definitions.specs.TableReading.{read_items, read_table}
use Rattle.definitions.specs.TableCalls.{stored_table}
use Rattle.format.specs.declared.Error.{Error}
use Rattle.laws.specs.StoredLaws.{counting}
use Rattle.laws.specs.TableForm.{length-form}
use Rattle.laws.specs.TableReadBack.{form-read}
use Rattle.format.specs.Answers.{stored_ints, stored_with, with-counts}
use Rattle.table.specs.Held.{form_of}
use Rattle.table.specs.Forms.{formed}
use Rattle.table.specs.Writing.{form-front}
use Rattle.std.specs.Prelude.{Result, Ok, Err, Some}
use Rattle.format.specs.Sources.{excess}
use Rattle.table_reading.specs.Reading.{header_of, Headed, Ints}
use Rattle.table_reading.specs.Counted.{table-after, warned}
use Rattle.table_reading.specs.declared.checked.Header.{Header}

-- a table that may be followed by more ints
pub with-excess : (x : Bool) (o : Outcome Table) (out last : List ℤ) (r : Result ℕ Error) → stored_table out o ≡ record { answer = stored_ints r; out = last } → stored_table out (warn_if x ExcessSnapData >> o) ≡ record { answer = stored_with r (excess x); out = last }
with-excess x o out last r e =
    ap (stored_table out) (warned x o)
    ∙ table-after out (excess x) o
    ∙ ap (counting (excess x)) e
    ∙ ap (λ (b : Outcome ℕ). record { answer = b; out = last }) (with-counts r (excess x))

-- ---- a table by its header

module _ (a : List ℤ) (h : Result Header Error) (read : (read_table a ≡ header_of a h) × Headed a h) where
  pub header_refused : (e : Error) (out : List ℤ) → h ≡ Err e → stored_table out (read_table a) ≡ record { answer = stored_with (Err e) (excess false); out = out }
  unfolding stored
  header_refused e out q = rw (read.0, q)

  pub headed : (t : Header) → h ≡ Ok t → Ints a t.items t.len
  headed t q = subst (Headed a) q read.1

  pub header-table : (t : Header) (out last : List ℤ) (r : Result ℕ Error) → h ≡ Ok t → stored_table out (read_items a t.items) ≡ record { answer = stored_ints r; out = last } → stored_table out (read_table a) ≡ record { answer = stored_with r (excess t.excess); out = last }
  header-table t out last r q e =
      ap (stored_table out) (read.0 ∙ ap (header_of a) q)
      ∙ with-excess t.excess (read_items a t.items) out last r e

-- ---- a table that is in form

module _ (a : List ℤ) {n k : ℕ} (e : Some (record { items = n; ints = k }) ≡ form_of (table_of a)) where
  -- its first k ints are stored
  pub form-stored : (out last : List ℤ) (r : Result ℕ Error) → stored out (return (take k a)) ≡ record { answer = stored_ints r; out = last } → stored_table out (read_table a) ≡ record { answer = stored_with r (excess (ltb k (length a))); out = last }
  form-stored out last r s =
      let f = formed a n k e in
      let h : stored_table out (return (items a)) ≡ record { answer = stored_ints r; out = last } = ap (λ (xs : List ℤ). stored out (return xs)) (form-front a e) ∙ s in
      ap (stored_table out) (form-read a f.0.shape)
      ∙ with-excess (ltb (length (written (items a))) (length a)) (return (items a)) out last r h
      ∙ ap (λ (m : ℕ). record { answer = stored_with r (excess (ltb m (length a))); out = last }) (length-form a f.0.shape ∙ sym f.1)
