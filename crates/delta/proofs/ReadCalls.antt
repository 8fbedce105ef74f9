-- The results of the calls that read a delta, with all their warnings. Assumes nothing.
use mathlib.Core.Path.{◌≡◌, refl, sym, ap, ap₂, ◌∙◌}
use mathlib.Core.Bool.{true, false}
use mathlib.Core.List.{List, [], ◌∷◌}
use Prim.Native.Nat.{ℕ, ◌≤◌, ◌<◌}
use native.Mathlib.Nat.{add-zero, zero-add}
use native.Mathlib.Omega.{arith}
use borrow.Author.Tests.{le-leb, lt-leb}
use lib.IntN.{ℤ}
use lib.ListN.{length, take, drop}
use lib.Seq.{take_at}
use Rattle.std.specs.Prelude.{Some}
use Rattle.definitions.specs.Refusals.{scratch_too_short, input_too_long}
use Rattle.definitions.specs.Warnings.{Counts, none, plus}
use Rattle.definitions.specs.Outcome.{Outcome, refuse, Wrote}
use Rattle.definitions.specs.Stored.{stored}
use Rattle.definitions.specs.Stream.{Stream, stream, ints, warnings}
use Rattle.definitions.specs.DeltaReading.{int_stream, read_delta}
use Rattle.definitions.specs.DeltaCalls.{stored_delta, read_from_ints_call, read_call}
use Rattle.laws.specs.WarningLaws.{packed}
use Rattle.laws.specs.AreaLaws.{lay-append}
use Rattle.laws.specs.StreamLaws.{few-ints, is_whole, whole_is}
use Rattle.laws.specs.DeltaReadBack.{ints-int_stream}
use Rattle.packer.specs.Scans.{Scanned}
use Rattle.packer.specs.declared.checked.Totals.{Totals}
use Rattle.format.specs.Answers.{stored_with}
use Rattle.format.specs.Sources.{deleted_counts, delta_counts}
use Rattle.delta_reading.specs.Answers.{OrderedRead}
use Rattle.delta_reading.specs.declared.checked.Ordered.{Ordered}
use Rattle.delta_source.specs.Source.{source, from}

-- one answer for another
pub answered : {a b : Outcome ℕ} (last : List ℤ) → a ≡ b → ◌≡◌ {A = Wrote ℕ ℤ} (record { answer = a; out = last }) (record { answer = b; out = last })
answered last e = ap (λ (o : Outcome ℕ). record { answer = o; out = last }) e

-- ---- the limits

module _ (src sizes out : List ℤ) (scratch : ℕ) where
  -- scratch is too short
  pub ints-too-short : scratch < 16384 → read_from_ints_call src sizes out scratch ≡ record { answer = refuse scratch_too_short; out = out }
  unfolding stored_delta stored
  ints-too-short h = rw (lt-leb 16384 scratch h)

  module _ (h : 16384 ≤ scratch) where
    -- too many ints
    pub ints-too-many : 1048576 < length src → read_from_ints_call src sizes out scratch ≡ record { answer = refuse input_too_long; out = out }
    unfolding stored_delta stored
    ints-too-many m = rw (le-leb 16384 scratch h, lt-leb (length src) 1048576 m)

module _ (src : List ℕ) (sizes out : List ℤ) (scratch : ℕ) where
  -- scratch is too short
  pub bytes-too-short : scratch < 16384 → read_call src sizes out scratch ≡ record { answer = refuse scratch_too_short; out = out }
  unfolding stored_delta stored
  bytes-too-short h = rw (lt-leb 16384 scratch h)

  -- or shorter than the bytes
  pub bytes-shorter : 16384 ≤ scratch → scratch < length src → read_call src sizes out scratch ≡ record { answer = refuse scratch_too_short; out = out }
  unfolding stored_delta stored
  bytes-shorter h k = rw (le-leb 16384 scratch h, lt-leb (length src) scratch k)

  module _ (h : 16384 ≤ scratch) (k : length src ≤ scratch) where
    -- too many bytes
    pub bytes-too-many : 1048576 < length src → read_call src sizes out scratch ≡ record { answer = refuse input_too_long; out = out }
    unfolding stored_delta stored
    bytes-too-many m = rw (le-leb 16384 scratch h, le-leb (length src) scratch k, lt-leb (length src) 1048576 m)

-- ---- in any order

-- the front of a source
from-ints : (b : List ℕ) (l : List ℤ) → from (source false b l) 0 ≡ int_stream l
unfolding from
from-ints b l = refl

-- the same for packed bytes
from_bytes : (b : List ℕ) (l : List ℤ) → from (source true b l) 0 ≡ stream b
unfolding from
from_bytes b l = refl

-- an area that is unchanged
pub any-ints : (b : List ℕ) (src sizes out before : List ℤ) (x : Wrote ℕ ℤ) → before ≡ out → stored_delta before (read_delta sizes (from (source false b src) 0)) ≡ x → stored_delta out (read_delta sizes (int_stream src)) ≡ x
any-ints b src sizes out before x e h = ap₂ (λ (a : List ℤ) (s : Stream). stored_delta a (read_delta sizes s)) (sym e) (sym (from-ints b src)) ∙ h

-- the same for packed bytes
pub any-bytes : (src : List ℕ) (l sizes out before : List ℤ) (x : Wrote ℕ ℤ) → before ≡ out → stored_delta before (read_delta sizes (from (source true src l) 0)) ≡ x → stored_delta out (read_delta sizes (stream src)) ≡ x
any-bytes src l sizes out before x e h = ap₂ (λ (a : List ℤ) (s : Stream). stored_delta a (read_delta sizes s)) (sym e) (sym (from_bytes src l)) ∙ h

-- ---- in one pass

-- the packer's warnings, and those of updates of deleted keys
ordered-counts : (o n : ℕ) → delta_counts o false false 0 n false ≡ plus (packed o) (deleted_counts n)
ordered-counts o n = rw (add-zero o, zero-add n)

-- ints are never cut, and have no padding bits
whole-ints : (xs : List ℤ) → is_whole (int_stream xs) ≡ true
whole-ints [] = refl
whole-ints (x ∷ xs) = whole-ints xs

-- nor do they count a warning
no-warnings : (xs : List ℤ) → packed 0 ≡ warnings (int_stream xs)
no-warnings [] = refl
no-warnings (x ∷ xs) = ap (plus none) (no-warnings xs)

module _ (sizes src out last : List ℤ) (x : Ordered) (r : OrderedRead sizes src out last (Some x)) where
  -- of any whole stream of these ints with so many warnings
  one-pass : (s : Stream) (o : ℕ) (w : Counts) → ints s ≡ src → is_whole s ≡ true → packed o ≡ warnings s → w ≡ delta_counts o false false 0 x.delete_updates false → stored_delta out (read_delta sizes s) ≡ record { answer = stored_with x.answer w; out = last }
  one-pass s o w i c v q =
      r s i c
      ∙ ap (λ (u : Counts). record { answer = stored_with x.answer u; out = last })
      (ap (λ (u : Counts). plus u (deleted_counts x.delete_updates)) (sym v) ∙ (sym (ordered-counts o x.delete_updates) ∙ sym q))

  -- of ints
  pub ordered-ints : (w : Counts) → w ≡ delta_counts 0 false false 0 x.delete_updates false → stored_delta out (read_delta sizes (int_stream src)) ≡ record { answer = stored_with x.answer w; out = last }
  ordered-ints w q = one-pass (int_stream src) 0 w (ints-int_stream src) (whole-ints src) (no-warnings src) q

module _ (src : List ℕ) (before after : List ℤ) (t : Totals) (s : Scanned (stream src) before t after) where
  -- what one pass over the bytes returns: their ints are at the front of scratch
  scanned-ints : length src ≤ length before → take t.count after ≡ ints (stream src)
  scanned-ints h =
      let all = ints (stream src) in
      ap₂ take s.count-is (s.out-is ∙ lay-append all before (omega (arith, few-ints src))) ∙ take_at all (drop (length all) before) (length all) refl

  -- of packed bytes that are whole
  pub ordered-bytes :
      (sizes out last : List ℤ) (x : Ordered) (w : Counts) → length src ≤ length before → t.cut ≡ false → t.padded ≡ false →
      OrderedRead sizes (take t.count after) out last (Some x) → w ≡ delta_counts t.overlong false false 0 x.delete_updates false →
      stored_delta out (read_delta sizes (stream src)) ≡ record { answer = stored_with x.answer w; out = last }
  ordered-bytes sizes out last x w h c p r q =
      let whole = whole_is (stream src) (sym s.cut-is ∙ c) (sym s.padded-is ∙ p) in
      one-pass sizes (take t.count after) out last x r (stream src) t.overlong w (sym (scanned-ints h)) whole s.warnings-are q
