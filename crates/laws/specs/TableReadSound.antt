-- A table that is read from packed bytes is sound. Assumes nothing.
use Rattle.std.specs.Prelude.{ℕ, zero, suc, ◌+◌, ◌-◌, ◌*◌, ◌/◌, ◌%◌, ◌<◌, ◌≤◌, ◌^◌, ◌≡◌, refl, Bool, true, false, cond, not, List, [], ◌∷◌, ltb, leb, eqb, ℤ, pos, get_or}
use Rattle.std.proofs.Common.{sym, ap, ◌∙◌, subst, ⊎_elim, eq-or-lt_of_le, arith, length-append, SFits}
use Rattle.std.proofs.lemmas.Bool.{false≢true}
use Rattle.std.proofs.Math.Option.{some}
use borrow.Author.Tests.{lt-ltb, le-ltb, le-leb, ltb-true, leb-false, eq-eqb}
use Rattle.std.proofs.Math.ListN.{length}
use Rattle.std.specs.Int.{w32}
use Rattle.std.proofs.Math.Facts.{sfits_lit}
use Rattle.definitions.specs.Refusals.{offsets_unpacking, invalid_offset, items_unpacking, non_zero_int_padding}
use Rattle.definitions.specs.Warnings.{Counts, ExcessSnapData}
use Rattle.definitions.specs.Outcome.{Outcome, ok, err, return, require, warn, warn_if, after, ◌>>=◌, ◌>>◌}
use Rattle.definitions.specs.Packed.{Read, extend, sign, signed, more, read_int}
use Rattle.definitions.specs.Stream.{Stream, and_then, stream_up_to, stream, ints, is_cut, is_padded, warnings}
use Rattle.definitions.specs.Tables.{Item, Table, body, offsets, written, rising, sound, start, key_at, item_at, edge, ends, find, is_some, insert}
use Rattle.definitions.specs.TableReading.{add_item, header_int, read_items, read_table, read_packed}
use Rattle.laws.specs.StreamLaws.{none-behind}
use Rattle.laws.specs.IntLaws.{bits-lt, from_bits-fits}
use Rattle.laws.specs.PackLaws.{Whole, nil, cons}
use Rattle.laws.specs.TableShape.{both}
use Rattle.laws.specs.TableForm.{length-written}
use Rattle.laws.specs.Tests.{below}

-- ---- the ints of a stream fit 32 bits

-- an int that was read, if any, fits 32 bits
data WholeRead : Outcome Read → Type 0 where
  whole : {r : Read} {w : Counts} → SFits w32 r.value → WholeRead (ok r w)
  nothing : {n : ℕ} {w : Counts} → WholeRead (err n w)

signed-whole : (s : Bool) (d : ℕ) → d < 2 ^ 32 → SFits w32 (signed s d)
unfolding signed
signed-whole false d h = from_bits-fits h
signed-whole true d h = from_bits-fits {n = 2 ^ 32 - 1 - d} (omega arith)

split : {x y : Outcome Read} (b : Bool) → (b ≡ true → WholeRead x) → (b ≡ false → WholeRead y) → WholeRead (cond b x y)
split true h k = h refl
split false h k = k refl

-- the weights of the bytes after the first, and how many may follow
data Weight : ℕ → ℕ → Type 0 where
  second : Weight 3 64
  third : Weight 2 8192
  fourth : Weight 1 1048576
  fifth : Weight 0 134217728

more-whole : {n w : ℕ} (d : ℕ) (s : Bool) (l : List ℕ) → Weight n w → d < w → WholeRead (more n w d s l)
unfolding more
more-whole d s [] q h = nothing
more-whole d s (b ∷ bs) second h =
    split (extend b) (λ e. more-whole (d + b % 128 * 64) s bs third (omega arith)) (λ e. whole (signed-whole s (d + b * 64) (omega (arith, leb-false 128 b e))))
more-whole d s (b ∷ bs) third h =
    split (extend b) (λ e. more-whole (d + b % 128 * 8192) s bs fourth (omega arith)) (λ e. whole (signed-whole s (d + b * 8192) (omega (arith, leb-false 128 b e))))
more-whole d s (b ∷ bs) fourth h =
    split (extend b) (λ e. more-whole (d + b % 128 * 1048576) s bs fifth (omega arith)) (λ e. whole (signed-whole s (d + b * 1048576) (omega (arith, leb-false 128 b e))))
more-whole d s (b ∷ bs) fifth h =
    split (leb 16 b) (λ e. nothing) (λ e. whole (signed-whole s (d + b * 134217728) (omega (arith, leb-false 16 b e))))

read_whole : (l : List ℕ) → WholeRead (read_int l)
unfolding read_int
read_whole [] = nothing
read_whole (b ∷ bs) = split (extend b) (λ e. more-whole (b % 64) (sign b) bs second (omega arith)) (λ e. whole (signed-whole (sign b) (b % 64) (omega arith)))

then-whole : {o : Outcome Read} (k : List ℕ → Stream) → WholeRead o → ((rest : List ℕ) → Whole (ints (k rest))) → Whole (ints (and_then o k))
then-whole k (whole {r = r} h) f = cons h (f r.rest)
then-whole k (nothing {n = n}) f = subst Whole (sym (none-behind n)) nil

up-to-whole : (n : ℕ) (l : List ℕ) → Whole (ints (stream_up_to n l))
up-to-whole zero l = nil
up-to-whole (suc n) [] = nil
up-to-whole (suc n) (b ∷ bs) = then-whole (λ rest. stream_up_to n rest) (read_whole (b ∷ bs)) (λ rest. up-to-whole n rest)

-- the ints of all bytes
pub stream-whole : (l : List ℕ) → Whole (ints (stream l))
unfolding stream
stream-whole l = up-to-whole (length l) l

-- so does each of them, and the default past the end
whole-at : {a : List ℤ} → Whole a → (i : ℕ) → SFits w32 (get_or a i (pos 0))
whole-at nil i = sfits_lit tt
whole-at (cons f h) zero = f
whole-at (cons f h) (suc i) = whole-at h i

-- ---- keys still rise with one more item

-- a key that no item has is neither the first item's nor any other's
pub not-here : (x : Item) (t : Table) (k : ℕ) → is_some (find k (x ∷ t)) ≡ false → (x.key ≡ k → ⊥) × (is_some (find k t) ≡ false)
unfolding find
not-here x t k e = go (eqb x.key k) refl e
  where
    go : (b : Bool) → eqb x.key k ≡ b → is_some (cond b (some x.values) (find k t)) ≡ false → (x.key ≡ k → ⊥) × (is_some (find k t) ≡ false)
    go true q n = absurd (false≢true (sym n))
    go false q n = (λ d. false≢true (sym q ∙ eq-eqb x.key k d), n)

-- a new key goes to its place
pub rising-insert : (i : Item) (t : Table) (low : ℕ) → rising low t ≡ true → is_some (find i.key t) ≡ false → low ≤ i.key → i.key < 2 ^ 32 → rising low (insert i t) ≡ true
unfolding rising insert
rising-insert i [] low e n l h = rw (le-leb low i.key l, lt-ltb i.key (2 ^ 32) h)
rising-insert i (x ∷ t) low e n l h =
    let p = both (leb low x.key) _ e in
    let q = both (ltb x.key (2 ^ 32)) _ p.1 in
    let m = not-here x t i.key n in
    ⊎_elim
    (λ (b : i.key < x.key).
    rw (lt-ltb i.key x.key b, le-leb low i.key l, lt-ltb i.key (2 ^ 32) h, le-leb (suc i.key) x.key b, q.0, q.1))
    (λ (b : x.key ≤ i.key).
    rw (le-ltb i.key x.key b, p.0, q.0)
    (rising-insert i t (suc x.key) q.1 m.1 (⊎_elim (λ (d : x.key ≡ i.key). absurd (m.0 d)) (λ (d : x.key < i.key). d) (eq-or-lt_of_le b)) h))
    (below i.key x.key)

-- and is one more
pub length-insert : (i : Item) (t : Table) → length (insert i t) ≡ suc (length t)
unfolding insert
length-insert i [] = refl
length-insert i (x ∷ t) = go (ltb i.key x.key) (length-insert i t)
  where
    go : (b : Bool) → length (insert i t) ≡ suc (length t) → length (cond b (i ∷ x ∷ t) (x ∷ insert i t)) ≡ suc (suc (length t))
    go true e = refl
    go false e = ap suc e

-- its key and its data more
length-body-insert : (i : Item) (t : Table) → length (body (insert i t)) ≡ length (body t) + (length i.values + 1)
unfolding body insert
length-body-insert i [] = omega (arith, length-append i.values [])
length-body-insert i (x ∷ t) = go (ltb i.key x.key) (length-body-insert i t)
  where
    go : (p : Bool) → length (body (insert i t)) ≡ length (body t) + (length i.values + 1) → length (body (cond p (i ∷ x ∷ t) (x ∷ insert i t))) ≡ length (body (x ∷ t)) + (length i.values + 1)
    go true e = omega (arith, length-append i.values (body (x ∷ t)))
    go false e = omega (arith, length-append x.values (body t), length-append x.values (body (insert i t)))

-- and its offset
pub length-written-insert : (i : Item) (t : Table) → length (written (insert i t)) ≡ length (written t) + (length i.values + 2)
length-written-insert i t =
    omega (arith, length-written (insert i t), length-written t, length-insert i t, length-body-insert i t)

-- ---- the result of reading is sound

-- the table that a call returns, if any, is sound
data Sound : Outcome Table → Type 0 where
  is-sound : {t : Table} {w : Counts} → sound t ≡ true → Sound (ok t w)
  refused : {n : ℕ} {w : Counts} → Sound (err n w)

sound-after : (w : Counts) (o : Outcome Table) → Sound o → Sound (after w o)
sound-after w (ok t v) (is-sound e) = is-sound e
sound-after w (err n v) refused = refused

sound-then : {A : Type 0} (o : Outcome A) (p : Outcome Table) → Sound p → Sound (o >> p)
sound-then (ok a w) p h = sound-after w p h
sound-then (err n w) p h = refused

sound-bind : {A : Type 0} (o : Outcome A) (f : A → Outcome Table) → ((a : A) → Sound (f a)) → Sound (o >>= f)
sound-bind (ok a w) f h = sound-after w (f a) (h a)
sound-bind (err n w) f h = refused

sound_more : (o : Outcome Table) (f : Table → Outcome Table) → Sound o → ((t : Table) → sound t ≡ true → Sound (f t)) → Sound (o >>= f)
sound_more (ok t w) f (is-sound e) h = sound-after w (f t) (h t e)
sound_more (err n w) f refused h = refused

sound-if : (b : Bool) (n : ℕ) (o : Outcome Table) → (b ≡ true → Sound o) → Sound (require b n >> o)
sound-if true n o h = sound-after _ o (h refl)
sound-if false n o h = refused

pub no_item : (b : Bool) → not b ≡ true → b ≡ false
no_item true e = sym e
no_item false e = refl

-- what `add_item` returns is sound
add-sound : (i : Item) (t : Table) → i.key < 2 ^ 32 → sound t ≡ true → Sound (add_item i t)
unfolding add_item
add-sound i t h s =
    sound-if (not (is_some (find i.key t))) _ _ (λ new.
    sound-if (ltb (length t) 1024) _ _ (λ few.
    sound-if (leb (length (written (insert i t))) 16384) _ _ (λ short.
    is-sound {t = insert i t} (unfold sound in
    let p = both (leb (length t) 1024) _ s in
    let q = both (leb (length (written t)) 16384) _ p.1 in
    rw (le-leb (length (insert i t)) 1024 (let l : length t < 1024 = ltb-true _ _ few in omega (arith, length-insert i t)), short)
    (rising-insert i t 0 q.1 (no_item _ new) (omega arith) h)))))

-- a table that an item was added to is sound
pub added-sound : (i : Item) (t u : Table) → i.key < 2 ^ 32 → sound t ≡ true → add_item i t ≡ return u → sound u ≡ true
added-sound i t u h s e = told (subst Sound e (add-sound i t h s))
  where
    told : {w : Counts} → Sound (ok u w) → sound u ≡ true
    told (is-sound q) = q

pub empty-sound : sound [] ≡ true
unfolding sound written rising body offsets
empty-sound = refl

items-sound : (a : List ℤ) → Whole a → (n : ℕ) → Sound (read_items a n)
unfolding read_items key_at
items-sound a h zero = sound-if (eqb (edge a 0) 0) _ _ (λ e. is-sound empty-sound)
items-sound a h (suc n) =
    sound_more (read_items a n) (λ t. require (ends a n) invalid_offset >> add_item (item_at a n) t) (items-sound a h n)
    (λ t s. sound-if (ends a n) invalid_offset (add_item (item_at a n) t) (λ e. add-sound (item_at a n) t (bits-lt (whole-at h (start a n))) s))

table-sound : (a : List ℤ) → Whole a → Sound (read_table a)
unfolding read_table
table-sound a h =
    sound-bind (header_int a 0) _ (λ bytes. sound-bind (header_int a 1) _ (λ n.
    sound-then (require (leb (2 + n) (length a)) offsets_unpacking) _
    (sound-then (require (eqb (bytes % 4) 0) invalid_offset) _
    (sound-then (require (leb (2 + n + bytes / 4) (length a)) items_unpacking) _
    (sound-then (warn_if (ltb (2 + n + bytes / 4) (length a)) ExcessSnapData) _ (items-sound a h n))))))

packed-sound : (l : List ℕ) → Sound (read_packed l)
unfolding read_packed
packed-sound l =
    sound-then (warn (warnings (stream l))) _
    (sound-then (require (not (is_padded (stream l))) non_zero_int_padding) _
    (sound-then (warn_if (is_cut (stream l)) ExcessSnapData) _ (table-sound (ints (stream l)) (stream-whole l))))

-- a table that is read is sound
pub read-sound : (l : List ℕ) {t : Table} {w : Counts} → read_packed l ≡ ok t w → sound t ≡ true
read-sound l {t} {w} e = told (subst Sound e (packed-sound l))
  where
    told : Sound (ok t w) → sound t ≡ true
    told (is-sound s) = s
