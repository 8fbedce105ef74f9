-- The header of a delta, step by step. Assumes nothing.
use mathlib.Core.Path.{◌≡◌, refl, sym, ap, ◌∙◌}
use mathlib.Core.Bool.{Bool, true, false, cond, not}
use Prim.Native.Nat.{ℕ, ◌+◌, ◌≤◌, ◌<◌, ◌^◌, suc, ◌-◌}
use native.Mathlib.Omega.{arith}
use lib.Dec.{eqb}
use lib.IntN.{ℤ, pos, negsuc}
use lib.Signed.{mag}
use borrow.Author.Tests.{ne_eqb}
use mir.Syntax.{w32}
use mir.Val.{of_z}
use Rattle.std.specs.Prelude.{Result, Ok, Err}
use Rattle.definitions.specs.Refusals.{unexpected_end, int_out_of_range}
use Rattle.definitions.specs.Warnings.{Counts, NonZeroPadding, plus}
use Rattle.definitions.specs.Outcome.{ok, err, return, warn_if, after, ◌>>◌}
use Rattle.definitions.specs.Packed.{warned}
use Rattle.definitions.specs.Tables.{num}
use Rattle.definitions.specs.TableReading.{non_negative}
use Rattle.definitions.specs.DeltaReading.{Got, DeltaHeader, header_number, read_delta_header}
use Rattle.laws.specs.Tests.{at_most_one}
use Rattle.laws.specs.OutcomeLaws.{after-after}
use Rattle.laws.specs.WarningLaws.{packed, warned-packed, plus_none, plus_assoc}
use Rattle.format.specs.Numbers.{number}
use Rattle.format.specs.declared.Error.{Error}
use Rattle.format.specs.declared.Error.TheVariants as error
use Rattle.packer.specs.Answers.{missing_as}
use Rattle.packer.specs.declared.IntRead.{IntRead}
use Rattle.delta_source.specs.Source.{Source, size, from, Next, found, nothing, Headers, odd_padding}
use Rattle.delta_source.specs.Source as Source
use Rattle.delta_source.specs.Steps.{Numbers, padding_of, HeaderOf}
use Rattle.delta_source.specs.Steps as Steps
use Rattle.delta_source.specs.declared.checked.Refusal.{Refusal}
use Rattle.delta_source.specs.declared.checked.Number.{Number}
use Rattle.delta_source.specs.declared.checked.Header.{Header}
use Rattle.delta_source.proofs.Reading.{more-warned, as-count, as-negative}

-- ---- a number

module _ (s : Source) (at : ℕ) where
  pub no_number :
      {r : Error} (e : Error) → Next s at (Err r) → number e ≡ missing_as (number r) unexpected_end → Numbers s at (Err (record { error = e; overlong = 0 }))
  unfolding header_number
  no_number e (nothing f) q = Steps.refused {r = record { error = e; overlong = 0 }} (rw (f unexpected_end, q)) (omega arith)

  module _ {r : IntRead} where
    pub negative-number :
        Next s at (Ok r) → mag r.value < 2 ^ 31 → 2 ^ 32 ≤ num r.value →
        Numbers s at (Err (record { error = error.IntOutOfRange; overlong = cond r.overlong 1 0 }))
    unfolding header_number
    negative-number (found e q a b) m h =
        Steps.refused {r = record { error = error.IntOutOfRange; overlong = cond r.overlong 1 0 }}
        (rw (e, ap non_negative (as-negative r.value m h)) (ap (err int_out_of_range) (plus_none (warned r.overlong) ∙ warned-packed r.overlong)))
        (at_most_one r.overlong)

    pub number_read : Next s at (Ok r) → num r.value < 2 ^ 32 → Numbers s at (Ok (record { value = num r.value; next = r.next; overlong = cond r.overlong 1 0 }))
    unfolding header_number
    number_read (found e q a b) h =
        let g : Got ℕ = record { value = num r.value; rest = from s r.next } in
        Steps.some_number {n = record { value = num r.value; next = r.next; overlong = cond r.overlong 1 0 }}
        (rw (e, ap non_negative (as-count r.value h)) (ap (ok g) (plus_none (warned r.overlong) ∙ warned-packed r.overlong)))
        (at_most_one r.overlong) b

-- ---- the padding

-- an int is 0 exactly if its bits are
pub odd-bits : (z : ℤ) → mag z < 2 ^ 31 → not (eqb (of_z w32 z) 0) ≡ not (eqb (num z) 0)
unfolding num
odd-bits (pos n) m = refl
odd-bits (negsuc n) m = ap not (ne_eqb (2 ^ 32 - suc n) 0 (λ e. absurd (omega (arith, m, e))))

odd-warned : (odd : Bool) (r : Got DeltaHeader) → (warn_if odd NonZeroPadding >> return r) ≡ ok r (odd_padding odd)
odd-warned true r = refl
odd-warned false r = refl

module _ (s : Source) (at k u o : ℕ) where
  pub no-padding :
      {r : Error} (e : Error) → Next s at (Err r) → number e ≡ missing_as (number r) unexpected_end →
      HeaderOf s (after (packed o) (padding_of k u (from s at))) (Err (record { error = e; overlong = o }))
  unfolding padding_of
  no-padding e (nothing f) q = Steps.refused {r = record { error = e; overlong = o }} (rw (f unexpected_end, q, plus_none (packed o)))

  module _ {r : IntRead} (odd : Bool) where
    pub padding-read :
        Next s at (Ok r) → odd ≡ not (eqb (num r.value) 0) →
        HeaderOf s (after (packed o) (padding_of k u (from s at)))
        (Ok (record { deleted = k; updated = u; odd = odd; next = r.next; overlong = o + cond r.overlong 1 0 }))
    unfolding padding_of
    padding-read (found e i a b) q =
        let w = warned r.overlong in
        let g : Got DeltaHeader = record { value = record { deleted = k; updated = u }; rest = from s r.next } in
        Steps.delta {h = record { deleted = k; updated = u; odd = odd; next = r.next; overlong = o + cond r.overlong 1 0 }}
        (rw (e, ← q, odd-warned odd g)
        (ap (ok g) (sym (plus_assoc (packed o) w (odd_padding odd)) ∙ ap (λ (v : Counts). plus v (odd_padding odd)) (more-warned o r.overlong)))) b

-- ---- the header

module _ (s : Source) where
  both_read :
      (k a o u d o₂ : ℕ) → header_number (from s 0) ≡ ok (record { value = k; rest = from s a }) (packed o) →
      header_number (from s a) ≡ ok (record { value = u; rest = from s d }) (packed o₂) →
      read_delta_header (from s 0) ≡ after (packed (o + o₂)) (padding_of k u (from s d))
  unfolding read_delta_header padding_of
  both_read k a o u d o₂ q r = rw (q, r) (after-after (packed o) (packed o₂) (padding_of k u (from s d)))

  pub first-refused : {r : Refusal} → Numbers s 0 (Err r) → Headers s (Err r)
  unfolding read_delta_header
  first-refused {r} (Steps.refused q a) = Source.refused {r = r} (rw q)

  module _ {k : Number} where
    pub second-refused :
        {r : Refusal} → Numbers s 0 (Ok k) → Numbers s k.next (Err r) → Headers s (Err (record { error = r.error; overlong = k.overlong + r.overlong }))
    unfolding read_delta_header
    second-refused {r} (Steps.some_number q x y) (Steps.refused m i) =
        Source.refused {r = record { error = r.error; overlong = k.overlong + r.overlong }} (rw (q, m))

    pub header-judged :
        {u : Number} {h : Result Header Refusal} → Numbers s 0 (Ok k) → Numbers s k.next (Ok u) →
        HeaderOf s (after (packed (k.overlong + u.overlong)) (padding_of k.value u.value (from s u.next))) h → Headers s h
    header-judged {u} (Steps.some_number q x y) (Steps.some_number r i j) (Steps.delta e b) =
        Source.delta (both_read k.value k.next k.overlong u.value u.next u.overlong q r ∙ e) b
    header-judged {u} (Steps.some_number q x y) (Steps.some_number r i j) (Steps.refused e) =
        Source.refused (both_read k.value k.next k.overlong u.value u.next u.overlong q r ∙ e)
