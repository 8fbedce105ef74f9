-- Unpacking a table: by the two tests, and then by one pass over the bytes. Assumes nothing.
use mathlib.Core.Path.{◌≡◌, refl, sym, ap, ap₂, ◌∙◌}
use mathlib.Core.Bool.{Bool, true, false, cond}
use mathlib.Core.List.{List}
use Prim.Native.Nat.{ℕ, ◌+◌, ◌≤◌, ◌<◌}
use Rattle.std.specs.Prelude.{Result}
use native.Mathlib.Nat.{add-zero, zero-add}
use native.Mathlib.Omega.{arith}
use borrow.Author.Tests.{le-leb, lt-leb}
use lib.IntN.{ℤ}
use lib.ListN.{length, take, drop}
use lib.Seq.{take_at}
use Rattle.definitions.specs.Refusals.{scratch_too_short, input_too_long, non_zero_int_padding}
use Rattle.definitions.specs.Warnings.{Counts, ExcessSnapData, none, plus}
use Rattle.definitions.specs.Outcome.{Outcome, err, return, refuse, after, warn_if, ◌>>=◌, ◌>>◌}
use Rattle.definitions.specs.Stored.{stored}
use Rattle.definitions.specs.Stream.{stream, ints, warnings, is_cut, is_padded}
use Rattle.definitions.specs.Tables.{Table}
use Rattle.definitions.specs.TableReading.{read_table, read_packed}
use Rattle.definitions.specs.TableCalls.{stored_table}
use Rattle.laws.specs.WarningLaws.{packed, plus_none}
use Rattle.laws.specs.OutcomeLaws.{after_none, bind-return}
use Rattle.laws.specs.AreaLaws.{lay-append, length-lay}
use Rattle.laws.specs.StreamLaws.{few-ints}
use Rattle.laws.specs.Padding.{padded-table}
use Rattle.format.specs.Answers.{stored_with}
use Rattle.format.specs.Sources.{excess, uuid_excess, table_counts}
use Rattle.format.specs.declared.Error.{Error}
use Rattle.packer.specs.Scans.{Scanned}
use Rattle.packer.specs.declared.checked.Totals.{Totals}
use Rattle.table_reading.specs.Counted.{warned, answered}
use Rattle.raw_snap.specs.Unpacking.{tested, Unpacks, Answers, read-unpacked}

-- what the pass counted comes before the table of the ints
reading : (src : List ℕ) (t : Totals) (xs : List ℤ) → is_padded (stream src) ≡ false → packed t.overlong ≡ warnings (stream src) → t.cut ≡ is_cut (stream src) → xs ≡ ints (stream src) → read_packed src ≡ after (packed t.overlong) (after (excess t.cut) (read_table xs))
unfolding read_packed
reading src t xs p w c i =
    let s = stream src in
    rw (p, w, c, i)
    (ap (after (warnings s)) (after_none (warn_if (is_cut s) ExcessSnapData >> read_table (ints s)) ∙ warned (is_cut s) (read_table (ints s))))

module _ (src : List ℕ) (n : ℕ) where
  -- a refusal is the answer, whatever judges the table
  refusing : (number : ℕ) (w : Counts) (a : Outcome ℕ) → ((judge : Table → Outcome Table) → tested src n (read_packed src >>= judge) ≡ err number w) → err number w ≡ a → Answers src n a
  unfolding stored
  refusing number w a t e judge out = ap (stored_table out) (t judge) ∙ answered out e

  pub too_short : n < 16384 → (a : Outcome ℕ) → refuse scratch_too_short ≡ a → Answers src n a
  too_short h a = refusing scratch_too_short none a (λ judge. rw (lt-leb 16384 n h))

  pub shorter : 16384 ≤ n → n < length src → (a : Outcome ℕ) → refuse scratch_too_short ≡ a → Answers src n a
  shorter h k a = refusing scratch_too_short none a (λ judge. rw (le-leb 16384 n h, lt-leb (length src) n k))

  module _ (h : 16384 ≤ n) (k : length src ≤ n) where
    pub too_long : 1048576 < length src → (a : Outcome ℕ) → refuse input_too_long ≡ a → Answers src n a
    too_long m a = refusing input_too_long none a (λ judge. rw (le-leb 16384 n h, le-leb (length src) n k, lt-leb (length src) 1048576 m))

    module _ (m : length src ≤ 1048576) (t : Totals) (before area : List ℤ) (s : Scanned (stream src) before t area) where
      passes : (o : Outcome Table) → tested src n o ≡ o
      passes o = rw (le-leb 16384 n h, le-leb (length src) n k, le-leb (length src) 1048576 m) (after_none (after none o) ∙ after_none o)

      -- one pass over the bytes came to padding bits
      pub padded : t.padded ≡ true → (w : Counts) → w ≡ packed t.overlong → Answers src n (err non_zero_int_padding w)
      padded e w q =
          refusing non_zero_int_padding (warnings (stream src)) (err non_zero_int_padding w)
          (λ judge. passes (read_packed src >>= judge) ∙ ap (λ (o : Outcome Table). o >>= judge) (padded-table src (sym s.padded-is ∙ e)))
          (ap (err non_zero_int_padding) (sym (q ∙ s.warnings-are)))

      -- what it returns otherwise
      pub scanned : t.padded ≡ false → length before ≡ n → Unpacks src n area t
      scanned e l =
          let all = ints (stream src) in
          let i : take t.count area ≡ all = ap₂ take s.count-is (s.out-is ∙ lay-append all before (omega (arith, few-ints src))) ∙ take_at all (drop (length all) before) (length all) refl in
          record {
            passed = passes;
            within = omega (arith, s.count-is, few-ints src, ap length s.out-is, length-lay all before);
            reads = reading src t (take t.count area) (sym s.padded-is ∙ e) s.warnings-are s.cut-is i;
          }

-- a table that nothing judges
module _ (src : List ℕ) (n : ℕ) (out : List ℤ) where
  unjudged : stored_table out (tested src n (read_packed src)) ≡ stored_table out (tested src n (read_packed src >>= return))
  unjudged = ap (λ (o : Outcome Table). stored_table out (tested src n o)) (sym (bind-return (read_packed src)))

  pub refused-raw : {a : Outcome ℕ} → Answers src n a → stored_table out (tested src n (read_packed src)) ≡ record { answer = a; out = out }
  refused-raw e = unjudged ∙ e return out

  pub read-raw : (area : List ℤ) (t : Totals) (last : List ℤ) (r : Result ℕ Error) (x : Bool) (w : Counts) → Unpacks src n area t → stored_table out (read_table (take t.count area)) ≡ record { answer = stored_with r (excess x); out = last } → w ≡ plus (packed t.overlong) (plus (excess t.cut) (plus (excess x) none)) → stored_table out (tested src n (read_packed src)) ≡ record { answer = stored_with r w; out = last }
  read-raw area t last r x w u e q =
      unjudged
      ∙ read-unpacked return src n area t out last r (excess x) w u (ap (stored_table out) (bind-return (read_table (take t.count area))) ∙ e)
      (q ∙ ap (λ (v : Counts). plus (packed t.overlong) (plus (excess t.cut) v)) (plus_none (excess x)))

-- the packer's counts, those of ints left over, and those of kinds
pub all-counts : (o : ℕ) (c x : Bool) (k : ℕ) → table_counts o (cond c 1 0 + cond x 1 0) k ≡ plus (packed o) (plus (excess c) (plus (excess x) (uuid_excess k)))
all-counts o true true k = rw (add-zero o, zero-add k, zero-add k, zero-add k)
all-counts o true false k = rw (add-zero o, zero-add k, zero-add k, zero-add k)
all-counts o false true k = rw (add-zero o, zero-add k, zero-add k, zero-add k)
all-counts o false false k = rw (add-zero o, zero-add k, zero-add k, zero-add k)
