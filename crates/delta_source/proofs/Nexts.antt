-- The integer at a place, and whether nothing is left. Assumes nothing.
use mathlib.Core.Path.{◌≡◌, refl, sym, ap, ◌∙◌}
use mathlib.Core.Bool.{Bool, true, false, cond, true≢false}
use mathlib.Core.List.{List}
use mathlib.Core.Logic.{⊎_elim}
use Prim.Native.Nat.{ℕ, ◌+◌, ◌≤◌, ◌<◌}
use native.Mathlib.Numerals.{add-one}
use native.Mathlib.Omega.{arith}
use borrow.Author.Tests.{le-leb, lt-leb}
use lib.Dec.{leb, eqb}
use lib.IntN.{ℤ, pos}
use lib.ListN.{length, drop, get_or, length-drop, drop_of_length-le}
use lib.Seq.{drop-cons}
use Rattle.definitions.specs.Refusals.{unexpected_end, non_zero_int_padding}
use Rattle.definitions.specs.Warnings as Warnings
use Rattle.definitions.specs.Outcome.{Outcome, ok, err, refuse}
use Rattle.definitions.specs.Packed.{Read, warned, read_int}
use Rattle.definitions.specs.Packer.{IntAt, read_int_at}
use Rattle.definitions.specs.Stream.{Stream, int, end, cut, padded, stopped, and_then, stream}
use Rattle.definitions.specs.DeltaReading.{int_stream, is_end, next}
use Rattle.definitions.specs.Readers.{plain_int_at}
use Rattle.laws.specs.Tests.{below}
use Rattle.laws.specs.OutcomeLaws.{err-number}
use Rattle.laws.specs.StreamLaws.{either_end, stream_end, stream-step, ended}
use Rattle.laws.specs.StreamLaws as StreamLaws
use Rattle.laws.specs.ReaderLaws.{int-end, int-found}
use Rattle.format.specs.Numbers.{number}
use Rattle.format.specs.declared.Error.{Error}
use Rattle.packer.specs.Answers.{int_read, refusal, missing_as}
use Rattle.packer.specs.declared.IntRead.{IntRead}
use Rattle.std.specs.Prelude.{Result, Ok, Err}
use Rattle.delta_source.specs.Source.{source, from, place_of, behind, Next, found, nothing}

-- ---- packed bytes

-- at an integer that is refused
stops : (n refusal : ℕ) → next refusal (stopped n) ≡ refuse (missing_as n refusal)
stops n refusal = go (eqb n non_zero_int_padding)
  where
    go : (b : Bool) → next refusal (cond b padded cut) ≡ refuse (cond b non_zero_int_padding refusal)
    go true = refl
    go false = refl

module _ (src : List ℕ) (l : List ℤ) (at : ℕ) where
  stream-past : length src ≤ at → stream (drop at src) ≡ end
  stream-past h = ap stream (drop_of_length-le src h) ∙ stream_end

  -- without bytes the reason is their end
  past_end : (n : ℕ) → length src ≤ at → read_int_at src at ≡ refuse n → unexpected_end ≡ n
  unfolding read_int_at read_int
  past_end n h e = err-number (rw (drop_of_length-le src h) at e)

  pub read_next : (r : Result IntRead Error) → read_int_at src at ≡ int_read r → Next (source true src l) at r
  unfolding from behind
  read_next (Ok r) e =
      let f = StreamLaws.found src at r.value r.next (warned r.overlong) e in
      found f.step (sym (ap place_of e)) f.on f.inside
  read_next (Err r) e =
      ⊎_elim
      (λ (h : at < length src). nothing (λ refusal. rw (ended src at (number r) Warnings.none h e) (stops (number r) refusal)))
      (λ (h : length src ≤ at). nothing (λ refusal. rw (stream-past h, ← past_end (number r) h e)))
      (below at (length src))

  then-more : (o : Outcome Read) → is_end (and_then o stream) ≡ false
  then-more (ok r w) = refl
  then-more (err n w) = either_end (λ (s : Stream). is_end s ≡ false) n refl refl

  pub packed-end : leb (length src) at ≡ is_end (from (source true src l) at)
  unfolding from
  packed-end =
      ⊎_elim
      (λ (h : at < length src).
      lt-leb (length src) at h
      ∙ sym (ap is_end (stream-step (drop at src) (simp length-drop (omega arith))) ∙ then-more (read_int (drop at src))))
      (λ (h : length src ≤ at). le-leb (length src) at h ∙ sym (ap is_end (stream-past h)))
      (below at (length src))

-- ---- ints

module _ (src : List ℕ) (l : List ℤ) (at : ℕ) where
  int-step : at < length l → int_stream (drop at l) ≡ int (get_or l at (pos 0)) Warnings.none (int_stream (drop (at + 1) l))
  int-step h = rw (add-one at) (ap int_stream (drop-cons l at (pos 0) h))

  int-past : length l ≤ at → int_stream (drop at l) ≡ end
  int-past h = ap int_stream (drop_of_length-le l h)

  -- the stream from the place of what was read
  abbrev onward : Outcome IntAt → Stream
  onward (ok r w) = int r.value w (int_stream (drop r.next l))
  onward (err n w) = end

  int-next :
      (r : Result IntRead Error) → at < length l → ok (record { value = get_or l at (pos 0); next = at + 1 }) (warned false) ≡ int_read r → Next (source false src l) at r
  unfolding from behind
  int-next (Ok r) h e = let q = ap place_of e in found (int-step h ∙ ap onward e) (sym q) (omega arith) (omega arith)
  int-next (Err r) h e = absurd (true≢false (ap (λ (o : Outcome IntAt). is_end (onward o)) (sym e)))

  no-int : (r : Result IntRead Error) → length l ≤ at → refuse unexpected_end ≡ int_read r → Next (source false src l) at r
  unfolding from
  no-int (Ok r) h e = absurd (true≢false (ap (λ (o : Outcome IntAt). is_end (onward o)) e))
  no-int (Err r) h e = nothing {e = r} (λ refusal. rw (int-past h, ← err-number e))

  pub plain-next : (r : Result IntRead Error) → plain_int_at l at ≡ int_read r → Next (source false src l) at r
  plain-next r e =
      ⊎_elim
      (λ (h : at < length l). int-next r h (sym (int-found l at h) ∙ e))
      (λ (h : length l ≤ at). no-int r h (sym (int-end l at h) ∙ e))
      (below at (length l))

  pub ints-end : leb (length l) at ≡ is_end (from (source false src l) at)
  unfolding from
  ints-end =
      ⊎_elim
      (λ (h : at < length l). lt-leb (length l) at h ∙ sym (ap is_end (int-step h)))
      (λ (h : length l ≤ at). le-leb (length l) at h ∙ sym (ap is_end (int-past h)))
      (below at (length l))

-- ---- an integer that must be present

-- why it is refused, by what was read
pub missing-as : (m : ℕ) {n : ℕ} {x : Result IntRead Error} {r : Error} → n ≡ missing_as (refusal x) m → x ≡ Err r → n ≡ missing_as (number r) m
missing-as m h e = h ∙ ap (λ (y : Result IntRead Error). missing_as (refusal y) m) e
