-- A packed table's ints, unpacked alike for tables and for tables with types. Assumes nothing.
use Rattle.std.specs.Prelude.{◌≡◌, ◌&&◌, List, ℕ, ◌≤◌, leb, ℤ, length, take, Result, Ok, Err}
use Rattle.std.proofs.Common.{sym, ap, ◌∙◌}
use Rattle.definitions.specs.Refusals.{scratch_too_short, input_too_long}
use Rattle.definitions.specs.Warnings.{Counts, plus}
use Rattle.definitions.specs.Outcome.{Outcome, after, require, ◌>>=◌, ◌>>◌}
use Rattle.definitions.specs.Tables.{Table}
use Rattle.definitions.specs.TableReading.{read_table, read_packed}
use Rattle.definitions.specs.TableCalls.{stored_table}
use Rattle.laws.specs.WarningLaws.{packed}
use Rattle.laws.specs.OutcomeLaws.{after-bind}
use Rattle.format.specs.Totals.{counts}
use Rattle.format.specs.Answers.{stored_with}
use Rattle.format.specs.Sources.{excess}
use Rattle.format.specs.declared.Error.{Error}
use Rattle.format.specs.declared.Reading.{Reading}
use Rattle.packer.specs.declared.checked.Totals.{Totals}
use Rattle.table_reading.specs.Counted.{told-after}

-- a reading after the tests of scratch with n entries and of the input's length
abbrev pub tested : List ℕ → ℕ → Outcome Table → Outcome Table
tested src n o = do
  require (leb 16384 n && leb (length src) n) scratch_too_short
  require (leb (length src) 1048576) input_too_long
  o

-- both tests hold, no integer has padding bits, and an area begins with the ints of the bytes
pub record Unpacks (src : List ℕ) (n : ℕ) (area : List ℤ) (t : Totals) : Type 0 where
  pub passed : (o : Outcome Table) → tested src n o ≡ o
  pub within : t.count ≤ length area
  pub reads : read_packed src ≡ after (packed t.overlong) (after (excess t.cut) (read_table (take t.count area)))

-- the answer to a call that reads no table, whatever was to judge it
abbrev pub Answers : List ℕ → ℕ → Outcome ℕ → Type 0
Answers src n a = (judge : Table → Outcome Table) (out : List ℤ) → stored_table out (tested src n (read_packed src >>= judge)) ≡ record { answer = a; out = out }

-- what an answer says of an area
abbrev pub UnpacksTo : List ℕ → ℕ → List ℤ → Result Totals Reading → Type 0
UnpacksTo src n area (Ok t) = Unpacks src n area t
UnpacksTo src n area (Err r) = Answers src n (stored_with r.answer (counts r.warnings))

-- the table of the ints is read, and then judged
pub read-unpacked : (judge : Table → Outcome Table) (src : List ℕ) (n : ℕ) (area : List ℤ) (t : Totals) (out last : List ℤ) (r : Result ℕ Error) (v w : Counts) → Unpacks src n area t → stored_table out (read_table (take t.count area) >>= judge) ≡ record { answer = stored_with r v; out = last } → w ≡ plus (packed t.overlong) (plus (excess t.cut) v) → stored_table out (tested src n (read_packed src >>= judge)) ≡ record { answer = stored_with r w; out = last }
read-unpacked judge src n area t out last r v w u e q =
    let p = packed t.overlong in
    let x = excess t.cut in
    let table = read_table (take t.count area) in
    ap (stored_table out)
    (u.passed (read_packed src >>= judge)
    ∙ (ap (λ (o : Outcome Table). o >>= judge) u.reads ∙ (after-bind p (after x table) judge ∙ ap (after p) (after-bind x table judge))))
    ∙ (told-after p (plus x v) (after x (table >>= judge)) out last r (told-after x v (table >>= judge) out last r e)
    ∙ ap (λ (c : Counts). record { answer = stored_with r c; out = last }) (sym q))
