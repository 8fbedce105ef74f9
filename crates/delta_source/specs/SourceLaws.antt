-- How many ints and warnings a source has: what is read and what is left add up to the whole. Assumes nothing.
use Rattle.std.specs.Prelude.{◌≡◌, refl, Bool, true, false, cond, not, List, [], ◌∷◌, ℕ, zero, suc, ◌+◌, ◌-◌, ◌*◌, ◌%◌, ◌≤◌, ◌<◌, ltb, leb, eqb, ℤ, pos, negsuc, length, drop}
use Rattle.std.proofs.Common.{ap, arith, length-drop}
use Rattle.std.proofs.Math.Option.{Option, some, none}
use Rattle.definitions.specs.Refusals.{unexpected_end, item_diffs_unpacking, non_zero_int_padding}
use Rattle.definitions.specs.Warnings.{Counts, NonZeroPadding, plus}
use Rattle.definitions.specs.Warnings as Warnings
use Rattle.definitions.specs.Outcome.{Outcome, ok, err, return, require, warn_if, after, ◌>>=◌, ◌>>◌}
use Rattle.definitions.specs.Packed.{Read, warned, extend, sign, more, read_int}
use Rattle.definitions.specs.Stream.{Stream, int, end, cut, padded, and_then, stream_up_to, stream, ints, warnings}
use Rattle.definitions.specs.Tables.{Item, num}
use Rattle.definitions.specs.TableReading.{non_negative}
use Rattle.definitions.specs.Deltas.{known_size}
use Rattle.definitions.specs.DeltaReading.{Got, Head, DeltaHeader, int_stream, next, next_ints, header_number, written_size, update_size, read_head, read_update, read_delta_header}
use Rattle.laws.specs.OutcomeLaws.{after_none}
use Rattle.laws.specs.StreamLaws.{either_end, few-ints}
use Rattle.laws.specs.DeltaReadBack.{ints-int_stream}
use Rattle.delta_source.specs.Source.{Source, source, size, from}

-- the packer's warnings
abbrev pub overlongs : Stream → ℕ
overlongs s = (warnings s).overlong_int_encoding

-- ---- an integer has at most one warning

data Mild : Outcome Read → Type 0 where
  mild : {r : Read} {w : Counts} → w.overlong_int_encoding ≤ 1 → Mild (ok r w)
  no-int : {n : ℕ} {w : Counts} → Mild (err n w)

warned-mild : {r : Read} (overlong : Bool) → Mild (ok r (warned overlong))
warned-mild true = mild {w = warned true} (omega arith)
warned-mild false = mild {w = warned false} (omega arith)

either : {x y : Outcome Read} (b : Bool) → Mild x → Mild y → Mild (cond b x y)
either true h k = h
either false h k = k

more-mild : (n w d : ℕ) (s : Bool) (l : List ℕ) → Mild (more n w d s l)
unfolding more
more-mild n w d s [] = no-int
more-mild zero w d s (b ∷ bs) = either (leb 16 b) no-int (warned-mild (eqb b 0))
more-mild (suc n) w d s (b ∷ bs) = either (extend b) (more-mild n (w * 128) (d + b % 128 * w) s bs) (warned-mild (eqb b 0))

read-mild : (l : List ℕ) → Mild (read_int l)
unfolding read_int
read-mild [] = no-int
read-mild (b ∷ bs) = either (extend b) (more-mild 3 64 (b % 64) (sign b) bs) (warned-mild false)

-- at most as many warnings as ints
abbrev Few : Stream → Type 0
Few s = overlongs s ≤ length (ints s)

few-then : {o : Outcome Read} (k : List ℕ → Stream) → Mild o → ((rest : List ℕ) → Few (k rest)) → Few (and_then o k)
few-then k (mild {r = r} a) f = omega (arith, f r.rest)
few-then k (no-int {n = n}) f = either_end Few n (omega arith) (omega arith)

few-up-to : (n : ℕ) (l : List ℕ) → Few (stream_up_to n l)
few-up-to zero l = omega arith
few-up-to (suc n) [] = omega arith
few-up-to (suc n) (b ∷ bs) = few-then (λ rest. stream_up_to n rest) (read-mild (b ∷ bs)) (λ rest. few-up-to n rest)

few-stream : (l : List ℕ) → Few (stream l)
unfolding stream
few-stream l = few-up-to (length l) l

few-int_stream : (l : List ℤ) → Few (int_stream l)
few-int_stream [] = omega arith
few-int_stream (x ∷ l) = omega (arith, few-int_stream l)

pub few-from : (s : Source) (at : ℕ) → overlongs (from s at) ≤ length (ints (from s at))
unfolding from
few-from s at = go s.packed
  where
    go : (p : Bool) → Few (cond p (stream (drop at s.bytes)) (int_stream (drop at s.ints)))
    go true = few-stream (drop at s.bytes)
    go false = few-int_stream (drop at s.ints)

-- there are no more ints than bytes
pub few-left : (s : Source) (at : ℕ) → length (ints (from s at)) ≤ size s - at
unfolding from
few-left s at = go s.packed
  where
    go : (p : Bool) → length (ints (cond p (stream (drop at s.bytes)) (int_stream (drop at s.ints)))) ≤ cond p (length s.bytes) (length s.ints) - at
    go true = omega (arith, few-ints (drop at s.bytes), length-drop at s.bytes)
    go false = omega (arith, ap length (ints-int_stream (drop at s.ints)), length-drop at s.ints)

-- either of two lists is short
pub size_below : (p : Bool) (b : List ℕ) (l : List ℤ) (m : ℕ) → length b < m → length l < m → size (source p b l) < m
size_below true b l m h k = h
size_below false b l m h k = k

-- ---- what is read and what is left

-- warnings so far and those left are all; the ints that the value accounts for and those left are at most base plus all
pub data Reads {A : Type 0} (base : ℕ) (many : A → ℕ) (s : Stream) : Outcome (Got A) → Type 0 where
  got :
      {g : Got A} {w : Counts} → w.overlong_int_encoding + overlongs g.rest ≡ overlongs s →
      many g.value + length (ints g.rest) ≤ base + length (ints s) → Reads base many s (ok g w)
  refused : {n : ℕ} {w : Counts} → w.overlong_int_encoding ≤ overlongs s → Reads base many s (err n w)

module _ {A : Type 0} where
  -- a value without a warning, with nothing read
  here : {base : ℕ} {many : A → ℕ} (a : A) (s : Stream) → many a ≤ base → Reads base many s (return (record { value = a; rest = s }))
  here a s h = got {g = record { value = a; rest = s }} {w = Warnings.none} (omega arith) (omega arith)

  nothing_read : {base : ℕ} {many : A → ℕ} {s : Stream} (n : ℕ) → Reads base many s (err n Warnings.none)
  nothing_read n = refused {w = Warnings.none} (omega arith)

  still : {base : ℕ} {many : A → ℕ} {s : Stream} {o : Outcome (Got A)} (b : Bool) (n : ℕ) → Reads base many s o → Reads base many s (require b n >> o)
  still {o = o} true n h = rw (after_none o) h
  still false n h = nothing_read n

  fewer : {base : ℕ} {many few : A → ℕ} {s : Stream} {o : Outcome (Got A)} → ((a : A) → few a ≤ many a) → Reads base many s o → Reads base few s o
  fewer f (got {g = g} {w = w} a b) = got {g = g} {w = w} a (omega (arith, f g.value))
  fewer f (refused a) = refused a

  behind :
      {base more : ℕ} {many : A → ℕ} {s t : Stream} {o : Outcome (Got A)} (w : Counts) → w.overlong_int_encoding + overlongs t ≡ overlongs s →
      more + length (ints t) ≤ base + length (ints s) → Reads more many t o → Reads base many s (after w o)
  behind w a b (got {g = g} {w = v} c d) = got {g = g} {w = plus w v} (omega arith) (omega arith)
  behind w a b (refused {w = v} c) = refused {w = plus w v} (omega arith)

then-reads : {A B : Type 0} {base : ℕ} {many : A → ℕ} {more : B → ℕ} {s : Stream} {o : Outcome (Got A)} (f : Got A → Outcome (Got B)) → Reads base many s o → ((g : Got A) → Reads (many g.value) more g.rest (f g)) → Reads base more s (o >>= f)
then-reads f (got {g = g} {w = w} a b) k = behind w a b (k g)
then-reads f (refused a) k = refused a

next-reads : (refusal base : ℕ) (s : Stream) → Reads base (λ (x : ℤ). base + 1) s (next refusal s)
next-reads refusal base (int x w s) = got {g = record { value = x; rest = s }} {w = w} refl (omega arith)
next-reads refusal base end = nothing_read refusal
next-reads refusal base cut = nothing_read refusal
next-reads refusal base padded = nothing_read non_zero_int_padding

pub ints-reads : (refusal n base : ℕ) (s : Stream) → Reads base (λ (l : List ℤ). base + length l) s (next_ints refusal n s)
unfolding next_ints
ints-reads refusal zero base s = here [] s (omega arith)
ints-reads refusal (suc n) base s =
    then-reads _ (next-reads refusal base s) (λ g.
    then-reads _ (ints-reads refusal n (base + 1) g.rest) (λ h. here (g.value ∷ h.value) h.rest (omega arith)))

number-reads : (z : ℤ) (base : ℕ) (s : Stream) → Reads base (λ (n : ℕ). base) s (non_negative z >>= λ n. return (record { value = n; rest = s }))
number-reads (pos n) base s = here n s (omega arith)
number-reads (negsuc n) base s = nothing_read _

header-number-reads : (base : ℕ) (s : Stream) → Reads base (λ (n : ℕ). base + 1) s (header_number s)
unfolding header_number
header-number-reads base s =
    then-reads _ (next-reads unexpected_end base s) (λ g. number-reads g.value (base + 1) g.rest)

padding-reads : (odd : Bool) (h : DeltaHeader) (base : ℕ) (s : Stream) → Reads base (λ (x : DeltaHeader). base) s (warn_if odd NonZeroPadding >> return (record { value = h; rest = s }))
padding-reads true h base s = got {g = record { value = h; rest = s }} {w = Warnings.one NonZeroPadding} (omega arith) (omega arith)
padding-reads false h base s = here h s (omega arith)

-- a header takes three ints
pub header-reads : (s : Stream) → Reads 0 (λ (x : DeltaHeader). 3) s (read_delta_header s)
unfolding read_delta_header
header-reads s =
    then-reads _ (header-number-reads 0 s) (λ k.
    then-reads _ (header-number-reads 1 k.rest) (λ u.
    then-reads _ (next-reads unexpected_end 2 u.rest) (λ p. padding-reads (not (eqb (num p.value) 0)) _ 3 p.rest)))

size-reads : (z : ℤ) (base : ℕ) (s : Stream) → Reads base (λ (n : ℕ). base) s (written_size z >>= λ n. return (record { value = n; rest = s }))
size-reads (pos n) base s = here n s (omega arith)
size-reads (negsuc n) base s = nothing_read _

update-size-reads : (o : Option ℕ) (base : ℕ) (s : Stream) → Reads base (λ (n : ℕ). base) s (update_size o s)
unfolding update_size
update-size-reads (some n) base s = here n s (omega arith)
update-size-reads none base s =
    fewer (λ n. omega arith)
    (then-reads _ (next-reads item_diffs_unpacking base s) (λ g. size-reads g.value (base + 1) g.rest))

-- a head takes two ints or three
pub head-reads : (sizes : List ℤ) (s : Stream) → Reads 0 (λ (h : Head). 2) s (read_head sizes s)
unfolding read_head
head-reads sizes s =
    then-reads _ (next-reads item_diffs_unpacking 0 s) (λ t.
    then-reads _ (next-reads item_diffs_unpacking 1 t.rest) (λ i.
    still (ltb (num t.value) 65536) _ (still (ltb (num i.value) 65536) _
    (then-reads _ (update-size-reads (known_size sizes (num t.value)) 2 i.rest) (λ n. here _ n.rest (omega arith))))))

-- an update takes the ints of its head and its differences
pub update-reads : (sizes : List ℤ) (s : Stream) → Reads 0 (λ (u : Item). 2 + length u.values) s (read_update sizes s)
unfolding read_update
update-reads sizes s =
    then-reads _ (head-reads sizes s) (λ h.
    then-reads _ (ints-reads item_diffs_unpacking h.value.size 2 h.rest) (λ l. here _ l.rest (omega arith)))
