-- Where padding bits are refused: one integer, the place of such an integer in some bytes, unpacking, and packed tables. Assumes nothing.
use Rattle.std.specs.Prelude.{◌≡◌, Bool, true, false, List, [], ◌∷◌, ◌++◌, ℕ, zero, suc, ◌+◌, ◌-◌, ◌*◌, ◌%◌, ◌≤◌, ◌<◌, eqb, ℤ, length, take, drop, get_or}
use Rattle.std.proofs.Math.Path.{refl, ap}
use Rattle.std.proofs.Common.{sym, ◌∙◌, append_assoc, ⊎_elim, zero-add, add-zero, add_assoc, arith, length-append, length-drop, get_or-drop}
use Rattle.std.proofs.lemmas.Bool.{false≢true}
use borrow.Author.Tests.{le-leb, lt-leb, eqb-true}
use Rattle.std.proofs.Math.Seq.{take-append-add, drop-append-add}
use Rattle.definitions.specs.Refusals.{unexpected_end, non_zero_int_padding}
use Rattle.definitions.specs.Warnings.{Counts, none, plus}
use Rattle.definitions.specs.Outcome.{Outcome, ok, err, refuse, Wrote}
use Rattle.definitions.specs.Packed.{Read, warned, sign, signed, more, read_int}
use Rattle.definitions.specs.Stream.{Stream, int, end, padded, cut, stopped, and_then, stream, warnings, is_padded}
use Rattle.definitions.specs.Packer.{unpack_call}
use Rattle.definitions.specs.Stored.{stored}
use Rattle.definitions.specs.TableReading.{read_packed}
use Rattle.definitions.specs.TableCalls.{read_call}
use Rattle.definitions.specs.Types.{typed_read_call}
use Rattle.definitions.specs.DeltaReading.{next}
use Rattle.laws.specs.Tests.{below}
use Rattle.laws.specs.OutcomeLaws.{err-number, ok-not-err}
use Rattle.laws.specs.StreamLaws.{either_end, stream_end, stream-step, is_whole}
use Rattle.laws.specs.WarningLaws.{none-plus, plus_none}

-- ---- one integer

-- bytes whose first integer has padding bits: after each of four another follows, and the fifth is 16 or more
pub data Padded : List ℕ → Type 0 where
  five : {a b c d e : ℕ} {rest : List ℕ} → 128 ≤ a → 128 ≤ b → 128 ≤ c → 128 ≤ d → 16 ≤ e → Padded (a ∷ b ∷ c ∷ d ∷ e ∷ rest)

-- it is refused
pub padding-refused : {l : List ℕ} → Padded l → read_int l ≡ refuse non_zero_int_padding
unfolding read_int more
padding-refused (five {a} {b} {c} {d} {e} f g h i j) =
    rw (le-leb 128 a f, le-leb 128 b g, le-leb 128 c h, le-leb 128 d i, le-leb 16 e j)

-- n bytes of 128 or more, and then one of 16 or more
data Ending : ℕ → List ℕ → Type 0 where
  last : {b : ℕ} {bs : List ℕ} → 16 ≤ b → Ending zero (b ∷ bs)
  one : {n b : ℕ} {bs : List ℕ} → 128 ≤ b → Ending n bs → Ending (suc n) (b ∷ bs)

-- the bytes after the first
more-refused : (n w d : ℕ) (s : Bool) (l : List ℕ) (v : Counts) → more n w d s l ≡ err non_zero_int_padding v → Ending n l
unfolding more
more-refused n w d s [] v e = let z : unexpected_end ≡ non_zero_int_padding = err-number e in absurd (omega arith)
more-refused zero w d s (b ∷ bs) v e =
    ⊎_elim
    (λ (h : b < 16). absurd (ok-not-err (rw (lt-leb 16 b h) at e)))
    (λ (h : 16 ≤ b). last h)
    (below b 16)
more-refused (suc n) w d s (b ∷ bs) v e =
    ⊎_elim
    (λ (h : b < 128). absurd (ok-not-err (rw (lt-leb 128 b h) at e)))
    (λ (h : 128 ≤ b). one h (more-refused n (w * 128) (d + b % 128 * w) s bs v (rw (le-leb 128 b h) at e)))
    (below b 128)

-- and nothing else is refused so
pub refused-padding : (l : List ℕ) (w : Counts) → read_int l ≡ err non_zero_int_padding w → Padded l
unfolding read_int
refused-padding [] w e = let z : unexpected_end ≡ non_zero_int_padding = err-number e in absurd (omega arith)
refused-padding (b ∷ bs) w e =
    ⊎_elim
    (λ (h : b < 128). absurd (ok-not-err (rw (lt-leb 128 b h) at e)))
    (λ (h : 128 ≤ b). go h (more-refused 3 64 (b % 64) (sign b) bs w (rw (le-leb 128 b h) at e)))
    (below b 128)
  where
    go : {a : ℕ} {l : List ℕ} → 128 ≤ a → Ending 3 l → Padded (a ∷ l)
    go f (one g (one h (one i (last j)))) = five f g h i j

-- ---- an integer's own bytes

-- an integer with its warnings, and the bytes after it
abbrev found : ℤ → Counts → List ℕ → Outcome Read
found x w rest = ok (record { value = x; rest = rest }) w

-- an integer that is found has bytes of its own: whatever follows them, it is found
data Own (read : List ℕ → Outcome Read) (l : List ℕ) : Outcome Read → Type 0 where
  own : {x : ℤ} {w : Counts} {rest : List ℕ} (bytes : List ℕ) → l ≡ bytes ++ rest → 0 < length bytes
      → ((t : List ℕ) → read (bytes ++ t) ≡ found x w t) → Own read l (found x w rest)
  refused : {n : ℕ} {w : Counts} → Own read l (err n w)

-- one byte
single : {read : List ℕ → Outcome Read} (b : ℕ) (bs : List ℕ) (x : ℤ) (w : Counts)
    → ((t : List ℕ) → read (b ∷ t) ≡ found x w t) → Own read (b ∷ bs) (found x w bs)
single b bs x w f = own {x = x} {w = w} (b ∷ []) refl (omega arith) f

-- one byte before others
before : {read after : List ℕ → Outcome Read} {bs : List ℕ} {o : Outcome Read} (b : ℕ)
    → ((t : List ℕ) → read (b ∷ t) ≡ after t) → Own after bs o → Own read (b ∷ bs) o
before b e (own {x = x} {w = w} bytes q h f) =
    own {x = x} {w = w} (b ∷ bytes) (ap (b ∷◌) q) (omega arith) (λ t. e (bytes ++ t) ∙ f t)
before b e refused = refused

-- the bytes after the first
more-own : (n w d : ℕ) (s : Bool) (l : List ℕ) → Own (more n w d s) l (more n w d s l)
unfolding more
more-own n w d s [] = refused
more-own zero w d s (b ∷ bs) =
    ⊎_elim
    (λ (h : b < 16). rw (lt-leb 16 b h) (single b bs (signed s (d + b * w)) (warned (eqb b 0)) (λ t. rw (lt-leb 16 b h))))
    (λ (h : 16 ≤ b). rw (le-leb 16 b h) refused)
    (below b 16)
more-own (suc n) w d s (b ∷ bs) =
    ⊎_elim
    (λ (h : b < 128). rw (lt-leb 128 b h) (single b bs (signed s (d + b * w)) (warned (eqb b 0)) (λ t. rw (lt-leb 128 b h))))
    (λ (h : 128 ≤ b). rw (le-leb 128 b h) (before b (λ t. rw (le-leb 128 b h)) (more-own n (w * 128) (d + b % 128 * w) s bs)))
    (below b 128)

-- all of them
read-own : (l : List ℕ) → Own read_int l (read_int l)
unfolding read_int
read-own [] = refused
read-own (b ∷ bs) =
    ⊎_elim
    (λ (h : b < 128). rw (lt-leb 128 b h) (single b bs (signed (sign b) (b % 64)) none (λ t. rw (lt-leb 128 b h))))
    (λ (h : 128 ≤ b). rw (le-leb 128 b h) (before b (λ t. rw (le-leb 128 b h)) (more-own 3 64 (b % 64) (sign b) bs)))
    (below b 128)

-- it comes first, and then the stream of what follows
own-step : {x : ℤ} {w : Counts} (bytes : List ℕ) → 0 < length bytes → ((t : List ℕ) → read_int (bytes ++ t) ≡ found x w t)
    → (t : List ℕ) → stream (bytes ++ t) ≡ int x w (stream t)
own-step bytes h f t = stream-step (bytes ++ t) (simp length-append (omega arith)) ∙ rw (f t)

-- ---- the place of the integer with padding bits

-- the stream of bytes that end inside that integer
abbrev pub cut_off : Stream → Stream
cut_off (int x w s) = int x w (cut_off s)
cut_off end = end
cut_off cut = cut
cut_off padded = cut

-- a place behind whole integers, where one has padding bits. Bytes that end inside it, after one to four of its bytes, are the integers
-- before it and one that is cut
pub record PaddedAt (l : List ℕ) : Type 0 where
  pub place : ℕ
  pub whole_before : is_whole (stream (take place l)) ≡ true
  pub padded-there : read_int (drop place l) ≡ refuse non_zero_int_padding
  pub cut-there : (k : ℕ) → 1 ≤ k → k ≤ 4 → stream (take (place + k) l) ≡ cut_off (stream l)

-- an end inside the first integer
cut_short : {l : List ℕ} (k : ℕ) → Padded l → 1 ≤ k → k ≤ 4 → stream (take k l) ≡ cut
unfolding stream read_int more
cut_short zero p h i = absurd (omega arith)
cut_short (suc zero) (five {a} e f g h i) j k = rw (le-leb 128 a e)
cut_short (suc (suc zero)) (five {a} {b} e f g h i) j k = rw (le-leb 128 a e, le-leb 128 b f)
cut_short (suc (suc (suc zero))) (five {a} {b} {c} e f g h i) j k = rw (le-leb 128 a e, le-leb 128 b f, le-leb 128 c g)
cut_short (suc (suc (suc (suc zero)))) (five {a} {b} {c} {d} e f g h i) j k =
    rw (le-leb 128 a e, le-leb 128 b f, le-leb 128 c g, le-leb 128 d h)
cut_short (suc (suc (suc (suc (suc n))))) p h i = absurd (omega arith)

-- the first integer has padding bits
at_first : (l : List ℕ) (w : Counts) → stream l ≡ padded → read_int l ≡ err non_zero_int_padding w → PaddedAt l
at_first l w s e =
    let p = refused-padding l w e in
    record {
      place = 0;
      whole_before = rw stream_end refl;
      padded-there = padding-refused p;
      cut-there = λ k h i. rw (zero-add k, s) (cut_short k p h i);
    }

-- or one after it
at-later : {x : ℤ} {w : Counts} (bytes rest : List ℕ) → 0 < length bytes
    → ((t : List ℕ) → read_int (bytes ++ t) ≡ found x w t) → PaddedAt rest → PaddedAt (bytes ++ rest)
at-later {x} {w} bytes rest h f q =
    let step = own-step bytes h f in
    record {
      place = length bytes + q.place;
      whole_before = rw (take-append-add bytes rest q.place, step (take q.place rest)) q.whole_before;
      padded-there = rw (drop-append-add bytes rest q.place) q.padded-there;
      cut-there = λ k i j.
          rw (add_assoc (length bytes) q.place k, take-append-add bytes rest (q.place + k), step (take (q.place + k) rest), step rest)
          (ap (int x w) (q.cut-there k i j));
    }

-- one of the two, by what the first integer is read as
at-either : (l : List ℕ) (o : Outcome Read) → Own read_int l o → read_int l ≡ o → stream l ≡ and_then o stream → is_padded (and_then o stream) ≡ true
    → ((rest : List ℕ) → length rest < length l → is_padded (stream rest) ≡ true → PaddedAt rest) → PaddedAt l
at-either l (ok r w) (own {rest = rest} bytes e h f) q s p k =
    let n : length l ≡ length bytes + length rest = ap length e ∙ length-append bytes rest in
    rw e (at-later bytes rest h f (k rest (omega arith) p))
at-either l (err n w) refused q s p k = go (eqb n non_zero_int_padding) refl
  where
    go : (b : Bool) → eqb n non_zero_int_padding ≡ b → PaddedAt l
    go true e =
        let m : n ≡ non_zero_int_padding = eqb-true n non_zero_int_padding e in
        at_first l w (s ∙ ap stopped m) (q ∙ ap (λ (k : ℕ). err k w) m)
    go false e = absurd (false≢true (rw e at p))

-- of at most n bytes
at-up-to : (n : ℕ) (l : List ℕ) → length l ≤ n → is_padded (stream l) ≡ true → PaddedAt l
at-up-to zero [] h e = absurd (false≢true (sym (ap is_padded stream_end) ∙ e))
at-up-to zero (b ∷ bs) h e = absurd (omega arith)
at-up-to (suc n) [] h e = absurd (false≢true (sym (ap is_padded stream_end) ∙ e))
at-up-to (suc n) (b ∷ bs) h e =
    let s = stream-step (b ∷ bs) (omega arith) in
    at-either (b ∷ bs) (read_int (b ∷ bs)) (read-own (b ∷ bs)) refl s (sym (ap is_padded s) ∙ e)
    (λ rest i p. at-up-to n rest (omega arith) p)

-- bytes with padding bits have such a place
pub cut_inside : (l : List ℕ) → is_padded (stream l) ≡ true → PaddedAt l
cut_inside l e = at-up-to (length l) l (omega arith) e

-- whole integers and then one with padding bits: no other counts than those before it
pub record Met (h t : List ℕ) : Type 0 where
  pub padded-is : is_padded (stream (h ++ t)) ≡ true
  pub counts-before : warnings (stream (h ++ t)) ≡ warnings (stream h)

-- it is the first
pub padded-first : {t : List ℕ} → Padded t → stream t ≡ padded
padded-first {t} p =
    let e : and_then (read_int t) stream ≡ padded = rw (padding-refused p) refl in
    stream-step t (long p) ∙ e
  where
    long : {t : List ℕ} → Padded t → 0 < length t
    long (five e f g h i) = omega arith

-- so it is met at once
met-first : {t : List ℕ} → Padded t → Met [] t
met-first p = let e = padded-first p in record { padded-is = rw e refl; counts-before = rw (e, stream_end) refl }

-- a stream that stops is not whole
stops : (n : ℕ) → is_whole (stopped n) ≡ false
stops n = either_end (λ (s : Stream). is_whole s ≡ false) n refl refl

-- it is behind another
met-later : (h t : List ℕ) (o : Outcome Read) → Own read_int h o → stream h ≡ and_then o stream → is_whole (and_then o stream) ≡ true
    → ((rest : List ℕ) → length rest < length h → is_whole (stream rest) ≡ true → Met rest t) → Met h t
met-later h t (ok r w) (own {w = v} {rest = rest} bytes e i f) s p k =
    let n : length h ≡ length bytes + length rest = ap length e ∙ length-append bytes rest in
    let q = k rest (omega arith) p in
    let step = own-step bytes i f in
    rw e (record {
      padded-is = rw (append_assoc bytes rest t, step (rest ++ t)) q.padded-is;
      counts-before = rw (append_assoc bytes rest t, step (rest ++ t), step rest) (ap (plus v) q.counts-before);
    })
met-later h t (err n w) refused s p k = absurd (false≢true (sym (stops n) ∙ p))

-- of at most n bytes
met-up-to : (n : ℕ) (h t : List ℕ) → length h ≤ n → is_whole (stream h) ≡ true → Padded t → Met h t
met-up-to zero [] t i e p = met-first p
met-up-to zero (b ∷ bs) t i e p = absurd (omega arith)
met-up-to (suc n) [] t i e p = met-first p
met-up-to (suc n) (b ∷ bs) t i e p =
    let s = stream-step (b ∷ bs) (omega arith) in
    met-later (b ∷ bs) t (read_int (b ∷ bs)) (read-own (b ∷ bs)) s (sym (ap is_whole s) ∙ e)
    (λ rest j q. met-up-to n rest t (omega arith) q p)

-- an integer with padding bits behind whole ones is met
pub padding-met : (h t : List ℕ) → is_whole (stream h) ≡ true → Padded t → Met h t
padding-met h t e p = met-up-to (length h) h t (omega arith) e p

-- ---- bytes without padding bits

-- the bytes at a place have the form of an integer with padding bits
pub record PaddedHere (l : List ℕ) (p : ℕ) : Type 0 where
  pub first : 128 ≤ get_or l p 0
  pub second : 128 ≤ get_or l (p + 1) 0
  pub third : 128 ≤ get_or l (p + 2) 0
  pub fourth : 128 ≤ get_or l (p + 3) 0
  pub fifth : 16 ≤ get_or l (p + 4) 0

-- byte by byte
here : (l : List ℕ) (p : ℕ) → Padded (drop p l) → (p + 4 < length l) × PaddedHere l p
here l p h = go (drop p l) h (length-drop p l) (λ i. get_or-drop p l i 0)
  where
    go : (t : List ℕ) → Padded t → length t ≡ length l - p → ((i : ℕ) → get_or t i 0 ≡ get_or l (p + i) 0)
        → (p + 4 < length l) × PaddedHere l p
    go t (five {a} f g h i j) n at =
        let z : a ≡ get_or l p 0 = at 0 ∙ ap (λ (k : ℕ). get_or l k 0) (add-zero p) in
        let r : PaddedHere l p =
        record {
          first = rw (← z) f;
          second = rw (← at 1) g;
          third = rw (← at 2) h;
          fourth = rw (← at 3) i;
          fifth = rw (← at 4) j;
        } in
        (omega arith, r)

-- where no place has it, there are no padding bits
pub no-padding : (l : List ℕ) → ((p : ℕ) → p + 4 < length l → PaddedHere l p → ⊥) → is_padded (stream l) ≡ false
no-padding l f = go (is_padded (stream l)) refl
  where
    go : (b : Bool) → is_padded (stream l) ≡ b → b ≡ false
    go true e =
        let q = cut_inside l e in
        let h = here l q.place (refused-padding (drop q.place l) none q.padded-there) in
        absurd (f q.place h.0 h.1)
    go false e = refl

-- ---- bytes with padding bits

-- where an end is refused, with whatever number, padding bits are
pub padded-next : (refusal : ℕ) → (next refusal cut ≡ refuse refusal) × (next refusal padded ≡ refuse non_zero_int_padding)
padded-next refusal = (refl, refl)

-- refused with the counts of the integers before, and the area left as it was
abbrev pub padded_answer : {A E : Type 0} → List ℕ → List E → Wrote A E
padded_answer l out = record { answer = err non_zero_int_padding (warnings (stream l)); out = out }

module _ (l : List ℕ) (e : is_padded (stream l) ≡ true) where
  -- they are not unpacked, however long the area
  pub padded-unpack : (out : List ℤ) → length l ≤ 1048576 → unpack_call l out ≡ padded_answer l out
  unfolding unpack_call
  padded-unpack out h = rw (le-leb (length l) 1048576 h, e) refl

  -- they hold no table, whatever their header says
  pub padded-table : read_packed l ≡ err non_zero_int_padding (warnings (stream l))
  unfolding read_packed
  padded-table =
      let h : read_packed l ≡ err non_zero_int_padding (plus (warnings (stream l)) none) = rw e refl in
      h ∙ ap (err non_zero_int_padding) (plus_none (warnings (stream l)))

  module _ (out : List ℤ) (scratch : ℕ) (room : 16384 ≤ scratch) (bytes : length l ≤ scratch) (few : length l ≤ 1048576) where
    -- a call that reads a table refuses them so, behind 41 and 42
    pub padded-call : read_call l out scratch ≡ padded_answer l out
    unfolding stored
    padded-call =
        rw (le-leb 16384 scratch room, le-leb (length l) scratch bytes, le-leb (length l) 1048576 few, padded-table)
        (ap (λ (w : Counts). record { answer = err non_zero_int_padding w; out = out }) (none-plus _ ∙ none-plus _))

    -- also a call that judges types
    pub padded-typed-call : typed_read_call l out scratch ≡ padded_answer l out
    unfolding stored
    padded-typed-call =
        rw (le-leb 16384 scratch room, le-leb (length l) scratch bytes, le-leb (length l) 1048576 few, padded-table)
        (ap (λ (w : Counts). record { answer = err non_zero_int_padding w; out = out }) (none-plus _ ∙ none-plus _))

-- 00 00 80 80 80 80 10: padding bits behind an empty table
pub behind-table : read_packed (0 ∷ 0 ∷ 0x80 ∷ 0x80 ∷ 0x80 ∷ 0x80 ∷ 0x10 ∷ []) ≡ refuse non_zero_int_padding
unfolding read_packed stream read_int more
behind-table = refl
