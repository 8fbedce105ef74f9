-- A packed delta with padding bits: 52 exactly where an end inside that integer would itself be refused. Assumes nothing.
use Rattle.std.specs.Prelude.{◌≡◌, refl, Bool, true, false, cond, not, ◌||◌, List, [], ◌∷◌, ◌++◌, map, eqb, ltb, pos, negsuc}
use Rattle.std.proofs.Common.{sym, ap, arith}
use Rattle.std.proofs.lemmas.Bool.{false≢true}
use Rattle.std.proofs.Math.Option.{Option, some, none}
use Prim.Native.Nat.{ℕ, zero, suc, ◌+◌, ◌≤◌, ◌<◌}
use borrow.Author.Tests.{le-leb}
use Rattle.std.proofs.Math.IntN.{ℤ}
use Rattle.std.proofs.Math.ListN.{length, take, length-take}
use Rattle.definitions.specs.Ints.{bits, from_bits}
use Rattle.definitions.specs.Refusals.{unexpected_end, deleted_items_unpacking, item_diffs_unpacking, type_id_range, id_range, non_zero_int_padding}
use Rattle.definitions.specs.Warnings.{Warning, Counts, NonZeroPadding, DuplicateDelete, DuplicateUpdate, DeleteUpdate, one}
use Rattle.definitions.specs.Warnings as Warnings
use Rattle.definitions.specs.Outcome.{Outcome, ok, err, return, refuse, require, warn_if, after, ◌>>=◌, ◌>>◌, Wrote}
use Rattle.definitions.specs.Packed.{signed, more, read_int}
use Rattle.definitions.specs.Stream.{Stream, int, end, cut, padded, stream, ints, is_cut, is_padded}
use Rattle.definitions.specs.Tables.{Item, num, find, is_some}
use Rattle.definitions.specs.TableReading.{non_negative}
use Rattle.definitions.specs.Stored.{stored}
use Rattle.definitions.specs.Deltas.{known_size}
use Rattle.definitions.specs.DeltaCalls.{stored_delta, read_call}
use Rattle.definitions.specs.DeltaReading.{Got, DeltaRead, is_end, elem, next, next_ints, header_number, written_size, update_size}
use Rattle.definitions.specs.DeltaReading.{read_head, read_update, read_updates, ordered, ordered_keys, read_delta_header, read_delta}
use Rattle.laws.specs.OutcomeLaws.{ok-not-err}
use Rattle.laws.specs.Padding.{cut_off, PaddedAt}

-- ---- an end's refusal

-- 52 in place of a number that an end is refused with
abbrev pub for_end : ℕ → ℕ
for_end n =
    cond (eqb n unexpected_end || (eqb n deleted_items_unpacking || eqb n item_diffs_unpacking)) non_zero_int_padding n

-- an outcome in which padding bits are met in place of an end
abbrev pub as_padded : {A : Type 0} → Outcome A → Outcome A
as_padded (ok a w) = ok a w
as_padded (err n w) = err (for_end n) w

-- ---- step by step

-- outcomes of a stream that ends padded, and of the same stream cut there. Either the first one's value has a property, and the second
-- one's value is made of it; or both are refused, the first with 52 if the second is for its end. The counts are the same
data Alike {A : Type 0} (P : A → Type 0) (made : A → A) : Outcome A → Outcome A → Type 0 where
  value : {a : A} {w : Counts} → P a → Alike P made (ok a w) (ok (made a) w)
  refusal : {m n : ℕ} {w : Counts} → m ≡ for_end n → Alike P made (err m w) (err n w)

-- both are refused
abbrev Refused : {A : Type 0} → Outcome A → Outcome A → Type 0
Refused o p = Alike (λ _. ⊥) (λ a. a) o p

module _ {A : Type 0} {P : A → Type 0} {made : A → A} where
  -- after earlier warnings
  later : {o p : Outcome A} (w : Counts) → Alike P made o p → Alike P made (after w o) (after w p)
  later w (value h) = value h
  later w (refusal e) = refusal e

  -- after a condition whose refusal is no end's
  given : {o p : Outcome A} (b : Bool) (n : ℕ) → n ≡ for_end n → Alike P made o p → Alike P made (require b n >> o) (require b n >> p)
  given true n e h = later Warnings.none h
  given false n e h = refusal e

  -- after a warning
  warns : {o p : Outcome A} (b : Bool) (k : Warning) → Alike P made o p → Alike P made (warn_if b k >> o) (warn_if b k >> p)
  warns true k h = later (one k) h
  warns false k h = later Warnings.none h

-- one step and then the next, which the first one's value goes into
then : {A B : Type 0} {P : A → Type 0} {Q : B → Type 0} {made : A → A} {making : B → B} {o p : Outcome B} (f g : B → Outcome A)
    → Alike Q making o p → ((b : B) → Q b → Alike P made (f b) (g (making b))) → Alike P made (o >>= f) (p >>= g)
then f g (value {a = b} {w = w} q) k = later w (k b q)
then f g (refusal e) k = refusal e

-- ---- the steps of reading

-- a stream that ends padded, with fewer than n integers before
abbrev Ends : ℕ → Stream → Type 0
Ends n s = (is_padded s ≡ true) × (length (ints s) < n)

module _ {A : Type 0} where
  -- what is left is such a stream
  abbrev Left : ℕ → Got A → Type 0
  Left n g = Ends n g.rest

  -- the same value, and the rest cut off
  abbrev cutting : Got A → Got A
  cutting g = record { value = g.value; rest = cut_off g.rest }

-- the next integer: there is one less
next-alike : (r n : ℕ) (s : Stream) → non_zero_int_padding ≡ for_end r → Ends (suc n) s → Alike (Left n) cutting (next r s) (next r (cut_off s))
next-alike r n (int x w s) e (p, h) = let k : length (ints s) < n = omega arith in value (p, k)
next-alike r n end e (p, h) = absurd (false≢true p)
next-alike r n cut e (p, h) = absurd (false≢true p)
next-alike r n padded e h = refusal e

-- the next integer: there are no more than before
more-alike : (r n : ℕ) (s : Stream) → non_zero_int_padding ≡ for_end r → Ends n s → Alike (Left n) cutting (next r s) (next r (cut_off s))
more-alike r n s e (p, h) = next-alike r n s e (p, omega arith)

-- the next k integers
ints-alike : (r k n : ℕ) (s : Stream) → non_zero_int_padding ≡ for_end r → Ends n s
    → Alike (Left n) cutting (next_ints r k s) (next_ints r k (cut_off s))
unfolding next_ints
ints-alike r zero n s e h = value h
ints-alike r (suc k) n s e h =
    then _ _ (more-alike r n s e h) (λ x i. then _ _ (ints-alike r k n x.rest e i) (λ l j. value j))

-- a number of the header, from the integer on
count-alike : (z : ℤ) (n : ℕ) (s : Stream) → Ends n s
    → Alike (Left n) cutting (non_negative z >>= λ k. return (record { value = k; rest = s }))
    (non_negative z >>= λ k. return (record { value = k; rest = cut_off s }))
count-alike (pos k) n s h = value h
count-alike (negsuc k) n s h = refusal refl

-- a number of the header
number-alike : (n : ℕ) (s : Stream) → Ends n s → Alike (Left n) cutting (header_number s) (header_number (cut_off s))
unfolding header_number
number-alike n s h = then _ _ (more-alike unexpected_end n s refl h) (λ x i. count-alike x.value n x.rest i)

-- the header
header-alike : (n : ℕ) (s : Stream) → Ends n s → Alike (Left n) cutting (read_delta_header s) (read_delta_header (cut_off s))
unfolding read_delta_header
header-alike n s h =
    then _ _ (number-alike n s h) (λ k i.
    then _ _ (number-alike n k.rest i) (λ u j.
    then _ _ (more-alike unexpected_end n u.rest refl j) (λ x l.
    warns (not (eqb (num x.value) 0)) NonZeroPadding (value l))))

-- a size that is written, from the integer on
written-alike : (z : ℤ) (n : ℕ) (s : Stream) → Ends n s
    → Alike (Left n) cutting (written_size z >>= λ k. return (record { value = k; rest = s }))
    (written_size z >>= λ k. return (record { value = k; rest = cut_off s }))
written-alike (pos k) n s h = value h
written-alike (negsuc k) n s h = refusal refl

-- how many differences follow
size-alike : (o : Option ℕ) (n : ℕ) (s : Stream) → Ends n s → Alike (Left n) cutting (update_size o s) (update_size o (cut_off s))
unfolding update_size
size-alike (some k) n s h = value h
size-alike none n s h = then _ _ (more-alike item_diffs_unpacking n s refl h) (λ x i. written-alike x.value n x.rest i)

-- the head of an update takes an integer at least
head-alike : (sizes : List ℤ) (n : ℕ) (s : Stream) → Ends (suc n) s → Alike (Left n) cutting (read_head sizes s) (read_head sizes (cut_off s))
unfolding read_head
head-alike sizes n s h =
    then _ _ (next-alike item_diffs_unpacking n s refl h) (λ t i.
    then _ _ (more-alike item_diffs_unpacking n t.rest refl i) (λ d j.
    given (ltb (num t.value) 65536) type_id_range refl (given (ltb (num d.value) 65536) id_range refl
    (then _ _ (size-alike (known_size sizes (num t.value)) n d.rest j) (λ k l. value l)))))

-- an update
update_alike : (sizes : List ℤ) (n : ℕ) (s : Stream) → Ends (suc n) s
    → Alike (Left n) cutting (read_update sizes s) (read_update sizes (cut_off s))
unfolding read_update
update_alike sizes n s h =
    then _ _ (head-alike sizes n s h) (λ d i.
    then _ _ (ints-alike item_diffs_unpacking d.value.size n d.rest refl i) (λ l j. value j))

-- a stream that ends padded is not at its end, and neither is it when cut there
pub not-at-end : (s : Stream) → is_padded s ≡ true → (is_end s ≡ false) × (is_end (cut_off s) ≡ false)
not-at-end (int x w s) e = (refl, refl)
not-at-end end e = absurd (false≢true e)
not-at-end cut e = absurd (false≢true e)
not-at-end padded e = (refl, refl)

-- the updates up to there
updates-alike : (sizes : List ℤ) (deleted : List ℕ) (n : ℕ) (l : List Item) (s : Stream) → Ends n s
    → Refused (read_updates sizes deleted n l s) (read_updates sizes deleted n l (cut_off s))
unfolding read_updates
updates-alike sizes deleted zero l s (p, h) = absurd (omega arith)
updates-alike sizes deleted (suc n) l s (p, h) =
    let z = not-at-end s p in
    rw (z.0, z.1)
    (then _ _ (update_alike sizes n s (p, h)) (λ u i.
    warns (is_some (find u.value.key l)) DuplicateUpdate
    (warns (elem u.value.key deleted) DeleteUpdate
    (updates-alike sizes deleted n (l ++ u.value ∷ []) u.rest i))))

-- cutting leaves the integers before
pub ints-cut : (s : Stream) → ints (cut_off s) ≡ ints s
ints-cut (int x w s) = ap (x ∷◌) (ints-cut s)
ints-cut end = refl
ints-cut cut = refl
ints-cut padded = refl

-- the whole delta
delta-alike : (sizes : List ℤ) (s : Stream) → is_padded s ≡ true → Refused (read_delta sizes s) (read_delta sizes (cut_off s))
unfolding read_delta
delta-alike sizes s p =
    let n = suc (length (ints s)) in
    then _ _ (header-alike n s (p, omega arith)) (λ h i.
    then _ _ (ints-alike deleted_items_unpacking h.value.deleted n h.rest refl i) (λ l j.
    warns (not (eqb (length (ordered_keys (map bits l.value))) (length (map bits l.value)))) DuplicateDelete
    (rw (ints-cut l.rest)
    (then _ _ (updates-alike sizes (map bits l.value) (length (ints l.rest) + 1) [] l.rest (j.0, omega arith))
    (λ us z. absurd z)))))

-- ---- a delta

-- of a stream that ends padded: 52 where the stream that is cut there is refused for its end, and else what that one gives
pub padded-delta : (sizes : List ℤ) (s : Stream) → is_padded s ≡ true → read_delta sizes s ≡ as_padded (read_delta sizes (cut_off s))
padded-delta sizes s e = go (delta-alike sizes s e)
  where
    go : {o p : Outcome DeltaRead} → Refused o p → o ≡ as_padded p
    go (value z) = absurd z
    go (refusal {w = w} q) = ap (λ (m : ℕ). err m w) q

-- neither of the two is a delta
neither : {o p : Outcome DeltaRead} {d : DeltaRead} {w : Counts} → Refused o p → (o ≡ ok d w → ⊥) × (p ≡ ok d w → ⊥)
neither (value z) = absurd z
neither (refusal q) = (λ f. ok-not-err (sym f), λ f. ok-not-err (sym f))

-- no delta is read from a stream that ends padded
pub padded-refused : (sizes : List ℤ) (s : Stream) → is_padded s ≡ true → (d : DeltaRead) (w : Counts) → read_delta sizes s ≡ ok d w → ⊥
padded-refused sizes s e d w = (neither (delta-alike sizes s e)).0

-- a stream with padding bits in place of an end inside the last integer, which cut there is as before
pad-out : (s : Stream) → is_cut s ≡ true → (t : Stream) × (is_padded t ≡ true) × (cut_off t ≡ s)
pad-out (int x w s) e = let h = pad-out s e in (int x w h.0, h.1, ap (int x w) h.2)
pad-out end e = absurd (false≢true e)
pad-out cut e = (padded, refl, refl)
pad-out padded e = absurd (false≢true e)

-- none is read from a stream that ends cut
pub cut-refused : (sizes : List ℤ) (s : Stream) → is_cut s ≡ true → (d : DeltaRead) (w : Counts) → read_delta sizes s ≡ ok d w → ⊥
cut-refused sizes s e d w q =
    let h = pad-out s e in
    (neither {d = d} {w = w} (delta-alike sizes h.0 h.1)).1 (rw h.2 q)

-- ---- bytes

-- bytes with padding bits, cut after one to four bytes of that integer
module _ (l : List ℕ) (e : is_padded (stream l) ≡ true) (at : PaddedAt l) (k : ℕ) (least : 1 ≤ k) (most : k ≤ 4) (sizes : List ℤ) where
  -- a delta
  pub padded-bytes : read_delta sizes (stream l) ≡ as_padded (read_delta sizes (stream (take (at.place + k) l)))
  padded-bytes = rw (at.cut-there k least most) (padded-delta sizes (stream l) e)

  -- the call that reads it, behind 41 and 42: the area is left as it was
  pub padded-delta-call : (out : List ℤ) (scratch : ℕ) → 16384 ≤ scratch → length l ≤ scratch → length l ≤ 1048576
      → read_call l sizes out scratch ≡ record { answer = as_padded (read_call (take (at.place + k) l) sizes out scratch).answer; out = out }
  unfolding stored_delta stored
  padded-delta-call out scratch room bytes few =
      let t = take (at.place + k) l in
      let h : length t ≤ length l = omega (arith, length-take (at.place + k) l) in
      let i = le-leb (length t) scratch (omega arith) in
      let j = le-leb (length t) 1048576 (omega arith) in
      rw (le-leb 16384 scratch room, le-leb (length l) scratch bytes, le-leb (length l) 1048576 few, i, j, at.cut-there k least most)
      (go (delta-alike sizes (stream l) e))
    where
      -- without earlier warnings
      plain : Outcome DeltaRead → Wrote ℕ ℤ
      plain o = stored_delta out (after Warnings.none (after Warnings.none o))

      go : {o p : Outcome DeltaRead} → Refused o p → plain o ≡ record { answer = as_padded (plain p).answer; out = out }
      go (value z) = absurd z
      go (refusal q) = rw q

-- 00 00 00 80 80 80 80 10: padding bits behind an empty delta
pub behind-delta : (sizes : List ℤ) → read_delta sizes (stream (0 ∷ 0 ∷ 0 ∷ 0x80 ∷ 0x80 ∷ 0x80 ∷ 0x80 ∷ 0x10 ∷ [])) ≡ refuse non_zero_int_padding
unfolding stream read_int more signed from_bits read_delta read_delta_header header_number next_ints num ordered read_updates read_update read_head
behind-delta sizes = refl
