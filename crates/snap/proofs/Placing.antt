-- The result of storing a table whose types were judged. Assumes nothing.
use mathlib.Core.Path.{◌≡◌, refl, sym, ap, ◌∙◌}
use mathlib.Core.List.{List, [], ◌∷◌}
use Prim.Native.Nat.{ℕ, suc, ◌+◌, ◌≤◌, ◌<◌}
use native.Mathlib.Omega.{arith}
use borrow.Author.Tests.{le-leb, lt-leb}
use Rattle.std.specs.Prelude.{Result, Ok, Err}
use lib.IntN.{ℤ}
use lib.ListN.{length, take}
use lib.Seq.{length-take-le}
use Rattle.definitions.specs.Areas.{lay}
use Rattle.definitions.specs.Refusals.{capacity_error}
use Rattle.definitions.specs.Warnings.{Counts, plus}
use Rattle.definitions.specs.Outcome.{Outcome, ok, err, ◌>>=◌}
use Rattle.definitions.specs.Stored.{stored}
use Rattle.definitions.specs.Tables.{Table, written, edge}
use Rattle.definitions.specs.TableReading.{read_items, read_table}
use Rattle.definitions.specs.TableCalls.{stored_table}
use Rattle.definitions.specs.Types.{typed}
use Rattle.laws.specs.WarningLaws.{plus_none}
use Rattle.laws.specs.OutcomeLaws.{return-bind, after-bind}
use Rattle.laws.specs.TableShape.{edge-end}
use Rattle.laws.specs.TableForm.{length-written}
use Rattle.format.specs.Numbers.{number}
use Rattle.format.specs.Answers.{stored_with}
use Rattle.format.specs.declared.Error.{Error}
use Rattle.format.specs.Sources.{excess, uuid_excess}
use Rattle.table_reading.specs.Counted.{warned, told-after}
use Rattle.table_reading.specs.Reading.{Indexed, picked, AllPlaced, all, refused, header_of}
use Rattle.table_reading.specs.declared.checked.Header.{Header}
use Rattle.types.specs.Picks.{table_in, picked-list}
use Rattle.snap.specs.Answers.{typed_items, typed_table}

-- ---- what the answer to placing all items says

pub placed-refused : {a : List ℤ} {n len : ℕ} {index : List ℕ} {e : Error} (out : List ℤ) → AllPlaced a n len index (Err e) → stored_table out (typed_items a n) ≡ record { answer = err (number e) (uuid_excess 0); out = out }
unfolding stored
placed-refused out (refused h) = rw h

pub placed-all : {a : List ℤ} {n len : ℕ} {index : List ℕ} → AllPlaced a n len index (Ok tt) → Indexed a n len index n
placed-all (all h) = h

-- ---- a table in an index

length-mapped : (a : List ℤ) (l : List ℕ) → length (picked a l) ≡ length l
length-mapped a [] = refl
length-mapped a (y ∷ l) = ap suc (length-mapped a l)

module _ (a : List ℤ) (n len : ℕ) (index : List ℕ) (x : Indexed a n len index n) where
  abbrev t : Table
  t = picked a (take n index)

  pub takes : length (written t) ≡ 2 + n + len
  takes =
      length-written t
      ∙ omega (arith, length-mapped a (take n index), length-take-le n index (omega (arith, x.few, x.long)), x.takes, ap (edge a) x.ints.count-is, edge-end a, x.ints.size_is)

  -- the types of the table that was read
  judged-as : typed_items a n ≡ typed (table_in a n index)
  judged-as = ap (λ (o : Outcome Table). o >>= typed) x.read ∙ return-bind t typed ∙ ap typed (picked-list a n len index x)

  pub types-refused : (m : ℕ) (w : Counts) (out : List ℤ) → typed (table_in a n index) ≡ err m w → stored_table out (typed_items a n) ≡ record { answer = err m w; out = out }
  unfolding stored
  types-refused m w out e = ap (stored_table out) (judged-as ∙ e)

  module _ (w : Counts) (out : List ℤ) (e : typed (table_in a n index) ≡ ok (table_in a n index) w) where
    sound : typed_items a n ≡ ok t w
    sound = judged-as ∙ e ∙ ap (λ (u : Table). ok u w) (sym (picked-list a n len index x))

    pub no_room : length out < 2 + n + len → stored_table out (typed_items a n) ≡ record { answer = err capacity_error w; out = out }
    unfolding stored
    no_room h = rw (sound, plus_none w, lt-leb (length (written t)) (length out) (omega (arith, takes)))

    pub with-room : (o : List ℤ) → 2 + n + len ≤ length out → o ≡ lay (written t) out → stored_table out (typed_items a n) ≡ record { answer = ok (2 + n + len) w; out = o }
    unfolding stored
    with-room o h q =
        rw (sound, plus_none w, le-leb (length (written t)) (length out) (omega (arith, takes)), q)
        (ap (λ (m : ℕ). record { answer = ok m w; out = lay (written t) out }) takes)

-- ---- a table by its header

pub header_refused : (a : List ℤ) (e : Error) (out : List ℤ) → read_table a ≡ header_of a (Err e) → stored_table out (typed_table a) ≡ record { answer = err (number e) (uuid_excess 0); out = out }
unfolding stored
header_refused a e out q = rw q

pub header-table : (a : List ℤ) (h : Header) (w : ℕ) (out last : List ℤ) (r : Result ℕ Error) → read_table a ≡ header_of a (Ok h) → stored_table out (typed_items a h.items) ≡ record { answer = stored_with r (uuid_excess w); out = last } → stored_table out (typed_table a) ≡ record { answer = stored_with r (plus (excess h.excess) (uuid_excess w)); out = last }
header-table a h w out last r q e =
    ap (stored_table out) (ap (λ (o : Outcome Table). o >>= typed) (q ∙ warned h.excess (read_items a h.items)) ∙ after-bind (excess h.excess) (read_items a h.items) typed)
    ∙ told-after (excess h.excess) (uuid_excess w) (typed_items a h.items) out last r e
