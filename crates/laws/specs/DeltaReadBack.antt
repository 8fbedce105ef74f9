-- A delta is read back from what is written under the same known sizes, without a warning.
use Rattle.std.specs.Prelude.{ℕ, zero, suc, ◌+◌, ◌/◌, ◌<◌, ◌≤◌, ◌^◌, ◌≡◌, Bool, cond, true, false, not, ◌&&◌, ℤ, pos, length, leb, ltb, eqb}
use Rattle.std.proofs.Math.Path.{refl, ap}
use Rattle.std.proofs.Common.{sym, ap₂, ◌∙◌, true≢false, arith, length-append}
use mathlib.Core.List.{List, [], ◌∷◌, ◌++◌, map, append_assoc, append-nil}
use Rattle.std.proofs.Math.Option.{some, none}
use borrow.Author.Tests.{lt-ltb, le-ltb, leb-true, ltb-true, eq-eqb, ne_eqb}
use Rattle.definitions.specs.Ints.{bits, from_bits}
use Rattle.definitions.specs.Outcome.{ok, return, after, warn_if, ◌>>◌}
use Rattle.definitions.specs.Warnings.{Counts, DeleteUpdate, one, plus}
use Rattle.definitions.specs.Warnings as Warnings
use Rattle.definitions.specs.Packed.{pack_ints, write_int}
use Rattle.definitions.specs.Stream.{Stream, int, end, cut, padded, stream, ints, warnings}
use Rattle.definitions.specs.Tables.{Item, num, find}
use Rattle.definitions.specs.Deltas.{Delta, rank, keys, signed_rising, is_in_order, known_size, size_ints, update_ints, updates_ints, delta_ints, written_delta}
use Rattle.definitions.specs.DeltaCalls.{is_size, sizes_match}
use Rattle.definitions.specs.DeltaReading.{int_stream, is_end, next_ints, header_number, elem, read_updates, put, ordered, ordered_keys, ordered_updates, DeltaRead, read_delta_header, read_delta}
use Rattle.laws.specs.IntLaws.{bits_back}
use Rattle.laws.specs.WarningLaws.{none-plus, plus_none, plus_assoc, plus_comm}
use Rattle.laws.specs.DeltaStream.{Took, take-one, take-ints, take-update}
use Rattle.laws.specs.PackedLaws.{read-write}
use Rattle.laws.specs.Shortest.{length-write_int}
use Rattle.laws.specs.TableShape.{both}
use Rattle.laws.specs.StreamLaws.{stream_end, stream-step, is_whole}
use Rattle.laws.specs.PackLaws.{Whole, nil, cons}

-- ---- the stream of some ints

-- what was packed is the stream of its ints
pub stream-packed : {xs : List ℤ} → Whole xs → stream (pack_ints xs) ≡ int_stream xs
unfolding pack_ints
stream-packed nil = stream_end
stream-packed (cons {x = x} {xs = xs} f h) =
    let l = pack_ints xs in
    let some : 0 < length (write_int x ++ l) = omega (arith, length-append (write_int x) l, length-write_int x) in
    rw (stream-step (write_int x ++ l) some, read-write x l f) (ap (λ (s : Stream). int x Warnings.none s) (stream-packed h))

pub ints-int_stream : (xs : List ℤ) → ints (int_stream xs) ≡ xs
ints-int_stream [] = refl
ints-int_stream (x ∷ xs) = ap (λ (l : List ℤ). x ∷ l) (ints-int_stream xs)

-- the ints at the front of a list
pub reads : (refusal : ℕ) (xs ys : List ℤ) → next_ints refusal (length xs) (int_stream (xs ++ ys)) ≡ return (record { value = xs; rest = int_stream ys })
unfolding next_ints
reads refusal [] ys = refl
reads refusal (x ∷ xs) ys = rw (reads refusal xs ys)

-- ---- all updates

-- no update is of a deleted key
unfoldable pub apart : List ℕ → List Item → Bool
apart deleted [] = true
apart deleted (x ∷ l) = not (elem x.key deleted) && apart deleted l

not-true : (b : Bool) → not b ≡ true → b ≡ false
not-true true e = sym e
not-true false e = refl

-- no key of rank low or above is there
abbrev Under : ℕ → List Item → Type 0
Under low t = (k : ℕ) → low ≤ rank k → find k t ≡ none

find-snoc : (k : ℕ) (t : List Item) (x : Item) → find k t ≡ none → (x.key ≡ k → ⊥) → find k (t ++ x ∷ []) ≡ none
unfolding find
find-snoc k [] x e h = rw (ne_eqb x.key k h)
find-snoc k (y ∷ t) x e h = go (eqb y.key k) e (λ q. find-snoc k t x q h)
  where
    go : (b : Bool) → cond b (some y.values) (find k t) ≡ none → (find k t ≡ none → find k (t ++ x ∷ []) ≡ none) → cond b (some y.values) (find k (t ++ x ∷ [])) ≡ none
    go true q f = let z : ◌≡◌ {A = ℕ} 0 1 = cc in absurd (omega arith)
    go false q f = f q

under-snoc : (low : ℕ) (t : List Item) (x : Item) → low ≤ rank x.key → Under low t → Under (suc (rank x.key)) (t ++ x ∷ [])
under-snoc low t x l u k m = find-snoc k t x (u k (omega arith)) (λ (q : x.key ≡ k). let e = ap rank q in omega arith)

-- the warnings of updates of deleted keys
unfoldable pub delete_updates : List ℕ → List Item → Counts
delete_updates deleted [] = Warnings.none
delete_updates deleted (x ∷ l) = plus (cond (elem x.key deleted) (one DeleteUpdate) Warnings.none) (delete_updates deleted l)

apart_none : (deleted : List ℕ) (l : List Item) → apart deleted l ≡ true → delete_updates deleted l ≡ Warnings.none
unfolding apart delete_updates
apart_none deleted [] a = refl
apart_none deleted (x ∷ l) a =
    let b = both (not (elem x.key deleted)) _ a in
    rw (not-true (elem x.key deleted) b.0, apart_none deleted l b.1)

not-ended : (s : Stream) (x : ℤ) (ys : List ℤ) → ints s ≡ x ∷ ys → is_end s ≡ false
not-ended (int y w s) x ys e = refl
not-ended end x ys e = let z : ◌≡◌ {A = ℕ} 0 1 = cc in absurd (omega arith)
not-ended cut x ys e = refl
not-ended padded x ys e = refl

update-first : (sizes : List ℤ) (x : Item) (ys : List ℤ) (s : Stream) → ints s ≡ update_ints sizes x ++ ys → is_end s ≡ false
unfolding update_ints
update-first sizes x ys s e = not-ended s _ _ e

-- the counts of an update and of those behind it, put together
tidy : (f e w d : Counts) → plus f (plus Warnings.none (plus e (plus w d))) ≡ plus (plus f w) (plus e d)
tidy f e w d =
    ap (plus f) (none-plus (plus e (plus w d)) ∙ sym (plus_assoc e w d) ∙ ap (λ (c : Counts). plus c d) (plus_comm e w) ∙ plus_assoc w e d)
    ∙ sym (plus_assoc f w (plus e d))

step : (b : Bool) (v : List Item) (f w d : Counts) → after f (after Warnings.none (warn_if b DeleteUpdate >> ok v (plus w d))) ≡ ok v (plus (plus f w) (plus (cond b (one DeleteUpdate) Warnings.none) d))
step true v f w d = ap (ok v) (tidy f (one DeleteUpdate) w d)
step false v f w d = ap (ok v) (tidy f Warnings.none w d)

no-updates : (sizes : List ℤ) (deleted : List ℕ) (n : ℕ) (before : List Item) (s : Stream) → is_whole s ≡ true → ints s ≡ [] → read_updates sizes deleted n before s ≡ ok (before ++ []) (plus (warnings s) Warnings.none)
unfolding read_updates
no-updates sizes deleted zero before end c e = rw (append-nil before)
no-updates sizes deleted (suc n) before end c e = rw (append-nil before)
no-updates sizes deleted n before cut c e = absurd (true≢false (sym c))
no-updates sizes deleted n before padded c e = absurd (true≢false (sym c))
no-updates sizes deleted n before (int x w s) c e = let z : ◌≡◌ {A = ℕ} 0 1 = cc in absurd (omega arith)

pub reads-updates : (sizes : List ℤ) (deleted : List ℕ) (n low : ℕ) (before l : List Item) (s : Stream) → Under low before → signed_rising low (keys l) ≡ true → sizes_match sizes l ≡ true → length l ≤ n → is_whole s ≡ true → ints s ≡ updates_ints sizes l → read_updates sizes deleted n before s ≡ ok (before ++ l) (plus (warnings s) (delete_updates deleted l))
unfolding read_updates updates_ints signed_rising sizes_match delete_updates
reads-updates sizes deleted n low before [] s u r m h c e = no-updates sizes deleted n before s c e
reads-updates sizes deleted zero low before (x ∷ l) s u r m h c e = absurd (omega arith)
reads-updates sizes deleted (suc n) low before (x ∷ l) s u r m h c e =
    let r1 = both (leb low (rank x.key)) _ r in
    let r2 = both (ltb x.key (2 ^ 32)) _ r1.1 in
    let m1 = both (is_size (known_size sizes (x.key / 65536)) (length x.values)) _ m in
    let low-is : low ≤ rank x.key = leb-true low (rank x.key) r1.0 in
    let t = take-update sizes s x (updates_ints sizes l) (ltb-true x.key (2 ^ 32) r2.0) m1.0 e in
    let again = reads-updates sizes deleted n (suc (rank x.key)) (before ++ x ∷ []) l t.rest (under-snoc low before x low-is u) r2.1 m1.1 (omega arith) (t.same_end ∙ c) t.behind in
    rw (update-first sizes x (updates_ints sizes l) s e, t.reads, u x.key low-is, again, append_assoc before (x ∷ []) l, t.all)
    (step (elem x.key deleted) (before ++ x ∷ l) t.front (warnings t.rest) (delete_updates deleted l))

-- ---- in order already

module _ {A : Type 0} (key : A → ℕ) where
  put_front : (x : A) (l : List A) → signed_rising (suc (rank (key x))) (map key l) ≡ true → put key x l ≡ x ∷ l
  unfolding put signed_rising
  put_front x [] r = refl
  put_front x (y ∷ l) r =
      let r1 = both (leb (suc (rank (key x))) (rank (key y))) _ r in
      let h : rank (key x) < rank (key y) = leb-true (suc (rank (key x))) (rank (key y)) r1.0 in
      rw (lt-ltb (rank (key x)) (rank (key y)) h)

  pub ordered-rising : (low : ℕ) (l : List A) → signed_rising low (map key l) ≡ true → ordered key l ≡ l
  unfolding ordered signed_rising
  ordered-rising low [] r = refl
  ordered-rising low (x ∷ l) r =
      let r1 = both (leb low (rank (key x))) _ r in
      let r2 = both (ltb (key x) (2 ^ 32)) _ r1.1 in
      ap (put key x) (ordered-rising (suc (rank (key x))) l r2.1) ∙ put_front x l r2.1

  -- of two with one key the later counts
  pub later-counts : (x y : A) → key x ≡ key y → ordered key (x ∷ y ∷ []) ≡ y ∷ []
  unfolding ordered put
  later-counts x y e =
      rw (e, le-ltb (rank (key y)) (rank (key y)) (omega arith), eq-eqb (rank (key y)) (rank (key y)) refl) refl

map_same : (l : List ℕ) → map (λ (k : ℕ). k) l ≡ l
map_same [] = refl
map_same (k ∷ l) = ap (λ (t : List ℕ). k ∷ t) (map_same l)

-- ---- the whole delta

pub length-keys : (l : List ℕ) → length (map from_bits l) ≡ length l
length-keys [] = refl
length-keys (k ∷ l) = ap suc (length-keys l)

keys-back : (low : ℕ) (l : List ℕ) → signed_rising low l ≡ true → map bits (map from_bits l) ≡ l
unfolding signed_rising
keys-back low [] r = refl
keys-back low (k ∷ l) r =
    let r1 = both (leb low (rank k)) _ r in
    let r2 = both (ltb k (2 ^ 32)) _ r1.1 in
    ap₂ (λ (a : ℕ) (t : List ℕ). a ∷ t) (bits_back k (ltb-true k (2 ^ 32) r2.0)) (keys-back (suc (rank k)) l r2.1)

pub many-ints : (sizes : List ℤ) (l : List Item) → length l ≤ length (updates_ints sizes l)
unfolding updates_ints update_ints
many-ints sizes [] = omega arith
many-ints sizes (x ∷ l) =
    let a = length-append (size_ints (known_size sizes (x.key / 65536)) (length x.values) ++ x.values) (updates_ints sizes l) in
    omega (arith, many-ints sizes l)

pub length-delta_ints : (sizes : List ℤ) (d : Delta) → length (delta_ints sizes d) ≡ 3 + length d.deleted + length (updates_ints sizes d.updated)
unfolding delta_ints
length-delta_ints sizes d =
    omega (arith, length-append (map from_bits d.deleted) (updates_ints sizes d.updated), length-keys d.deleted)

-- what is read where nothing is repeated
abbrev pub read_back : Delta → DeltaRead
read_back d = record { delta = d; room = length (written_delta d) }

-- the header of a delta's ints
take-header : (s : Stream) (k u : ℕ) (ys : List ℤ) → ints s ≡ pos k ∷ pos u ∷ pos 0 ∷ ys → Took read_delta_header s (record { deleted = k; updated = u }) ys
unfolding read_delta_header header_number num
take-header s k u ys e =
    let a = take-one 1 s (pos k) (pos u ∷ pos 0 ∷ ys) e in
    let b = take-one 1 a.rest (pos u) (pos 0 ∷ ys) a.behind in
    let c = take-one 1 b.rest (pos 0) ys b.behind in
    record {
      rest = c.rest;
      front = plus a.front (plus b.front c.front);
      reads =
          rw (a.reads, b.reads, c.reads)
          (ap (ok (record { value = record { deleted = k; updated = u }; rest = c.rest })) (ap₂ plus (plus_none a.front) (ap₂ plus (plus_none b.front) (plus_none c.front))));
      behind = c.behind;
      same_end = c.same_end ∙ (b.same_end ∙ a.same_end);
      all =
          a.all ∙ ap (plus a.front) (b.all ∙ ap (plus b.front) c.all)
          ∙ sym (plus_assoc a.front (plus b.front c.front) (warnings c.rest) ∙ ap (plus a.front) (plus_assoc b.front c.front (warnings c.rest)));
    }

-- the counts of header, keys and updates, put together
whole : (h l w d : Counts) → plus h (plus l (plus Warnings.none (plus (plus w d) Warnings.none))) ≡ plus (plus h (plus l w)) d
whole h l w d =
    ap (λ (c : Counts). plus h (plus l c)) (none-plus (plus (plus w d) Warnings.none) ∙ plus_none (plus w d))
    ∙ sym (plus_assoc h (plus l w) d ∙ ap (plus h) (plus_assoc l w d))

-- a stream of a delta's ints is read as it, with its own warnings and those of updates of deleted keys
pub delta-reads : (sizes : List ℤ) (d : Delta) (s : Stream) → is_in_order d ≡ true → sizes_match sizes d.updated ≡ true → is_whole s ≡ true → ints s ≡ delta_ints sizes d → read_delta sizes s ≡ ok (read_back d) (plus (warnings s) (delete_updates d.deleted d.updated))
unfolding read_delta delta_ints is_in_order
delta-reads sizes d s o m c e =
    let k = d.deleted in
    let u = d.updated in
    let ys = updates_ints sizes u in
    let o1 = both (signed_rising 0 k) _ o in
    let h = take-header s (length k) (length u) (map from_bits k ++ ys) e in
    let l = take-ints 3 h.rest (map from_bits k) ys h.behind in
    let l-reads : next_ints 3 (length k) h.rest ≡ ok (record { value = map from_bits k; rest = l.rest }) l.front = rw (length-keys k) at l.reads in
    let ok-keys : ordered_keys k ≡ k = ordered-rising (λ (j : ℕ). j) 0 k (rw (map_same k) o1.0) in
    let ok-ups : ordered_updates u ≡ u = ordered-rising (λ (x : Item). x.key) 0 u o1.1 in
    let fuel : length u ≤ length (ints l.rest) + 1 = rw l.behind (omega (arith, many-ints sizes u)) in
    let ups = reads-updates sizes k (length (ints l.rest) + 1) 0 [] u l.rest (λ j i. unfold find in refl) o1.1 m fuel (l.same_end ∙ (h.same_end ∙ c)) l.behind in
    rw (h.reads, l-reads, keys-back 0 k o1.0, ok-keys, eq-eqb (length k) (length k) refl, ups, eq-eqb (length u) (length u) refl, ok-ups)
    (ap₂ (λ (r : ℕ) (w : Counts). ok (record { delta = d; room = r }) w) (sym (length-delta_ints [] d))
    (whole h.front l.front (warnings l.rest) (delete_updates k u) ∙ ap (λ (w : Counts). plus w (delete_updates k u)) (sym (h.all ∙ ap (plus h.front) l.all))))

whole-ints : (xs : List ℤ) → is_whole (int_stream xs) ≡ true
whole-ints [] = refl
whole-ints (x ∷ xs) = whole-ints xs

no-warnings : (xs : List ℤ) → warnings (int_stream xs) ≡ Warnings.none
no-warnings [] = refl
no-warnings (x ∷ xs) = ap (plus Warnings.none) (no-warnings xs)

-- a delta's own ints are read as it, without a warning
pub delta-read : (sizes : List ℤ) (d : Delta) → is_in_order d ≡ true → sizes_match sizes d.updated ≡ true → apart d.deleted d.updated ≡ true → read_delta sizes (int_stream (delta_ints sizes d)) ≡ return (read_back d)
delta-read sizes d o m a =
    let s = int_stream (delta_ints sizes d) in
    delta-reads sizes d s o m (whole-ints (delta_ints sizes d)) (ints-int_stream (delta_ints sizes d))
    ∙ ap (ok (read_back d)) (ap₂ plus (no-warnings (delta_ints sizes d)) (apart_none d.deleted d.updated a))
