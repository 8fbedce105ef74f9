-- A delta that is read: in order, no longer than its room, and with warnings of its own kinds. Assumes nothing.
use mathlib.Core.Path.{◌≡◌, refl}
use mathlib.Core.Bool.{true, not}
use mathlib.Core.List.{List, [], ◌∷◌, ◌++◌, map}
use mathlib.Core.Option.{Option, some, none}
use Prim.Native.Nat.{ℕ, zero, suc, ◌+◌, ◌*◌, ◌≤◌, ◌<◌, ◌^◌}
use native.Mathlib.Omega.{arith}
use borrow.Author.Tests.{lt-ltb, ltb-true}
use lib.Dec.{ltb, eqb}
use lib.IntN.{ℤ, pos, negsuc}
use lib.ListN.{length, length-append}
use mir.Syntax.{w32}
use mir.Val.{SFits}
use Rattle.definitions.specs.Ints.{bits}
use Rattle.definitions.specs.Refusals.{unexpected_end, deleted_items_unpacking, item_diffs_unpacking}
use Rattle.definitions.specs.Warnings.{NonZeroPadding, DuplicateDelete, DuplicateUpdate, DeleteUpdate, NumUpdatedItems}
use Rattle.definitions.specs.Outcome.{Outcome, return, ◌>>=◌}
use Rattle.definitions.specs.Stream.{Stream, int, end, cut, padded, stream, ints}
use Rattle.definitions.specs.Tables.{Item, num, key_of, find, is_some}
use Rattle.definitions.specs.TableReading.{non_negative}
use Rattle.definitions.specs.Deltas.{keys, is_in_order, known_size, update_ints, updates_ints, written_delta}
use Rattle.definitions.specs.DeltaReading.{Got, Head, DeltaHeader, DeltaRead, is_end, elem, next, next_ints, header_number, written_size, update_size, read_head, read_update, read_updates, ordered_keys, delta_read, read_delta_header, read_delta}
use Rattle.laws.specs.IntLaws.{bits-lt}
use Rattle.laws.specs.WarningKinds.{of_reading, of_any, Told, value, refusal, counting, returns, given, warns, either, then, weaker, together}
use Rattle.laws.specs.ReadKinds.{stream-kinds}
use Rattle.laws.specs.ReadKinds as Kinds
use Rattle.laws.specs.PackLaws.{Whole, nil, cons}
use Rattle.laws.specs.StreamLaws.{few-ints}
use Rattle.laws.specs.TableReadSound.{stream-whole}
use Rattle.laws.specs.TableShape.{both}
use Rattle.laws.specs.DeltaReadBack.{length-delta_ints}
use Rattle.delta_index.specs.Placing.{keys_fit}
use Rattle.delta_source.specs.SourceLaws.{Reads, got, refused, header-reads, ints-reads, update-reads}
use Rattle.delta_source.specs.SourceBounds.{length-update, length-updates}
use Rattle.delta_any_order.specs.OrderLaws.{length-bits, length-ordered_keys, length-ordered_updates, ordered-rises, ordered_keys-rise}

-- ---- the steps of reading

-- ints of 32 bits are left
abbrev Left : Stream → Type 0
Left s = Whole (ints s)

-- a value that leaves such a stream
abbrev Leaves : {A : Type 0} → Got A → Type 0
Leaves g = Left g.rest

next-told : (n : ℕ) (s : Stream) → Left s → Told of_any (λ (g : Got ℤ). SFits w32 g.value × Leaves g) (next n s)
next-told n (int x w s) (cons f h) = value (f, h) refl
next-told n end p = refusal refl
next-told n cut p = refusal refl
next-told n padded p = refusal refl

ints-told : (refusal n : ℕ) (s : Stream) → Left s → Told of_any (λ (g : Got (List ℤ)). Whole g.value × Leaves g) (next_ints refusal n s)
unfolding next_ints
ints-told m zero s p = returns counting _ (nil, p)
ints-told m (suc n) s p =
    then counting _ (next-told m s p) (λ x q.
    then counting _ (ints-told m n x.rest q.1) (λ l r. returns counting _ (cons q.0 r.0, r.1)))

count-told : (z : ℤ) (s : Stream) → Left s → Told of_any (Leaves {A = ℕ}) (non_negative z >>= λ n. return (record { value = n; rest = s }))
count-told (pos n) s p = value p refl
count-told (negsuc n) s p = refusal refl

number-told : (s : Stream) → Left s → Told of_any (Leaves {A = ℕ}) (header_number s)
unfolding header_number
number-told s p = then counting _ (next-told unexpected_end s p) (λ x q. count-told x.value x.rest q.1)

header-told : (s : Stream) → Left s → Told of_any (Leaves {A = DeltaHeader}) (read_delta_header s)
unfolding read_delta_header
header-told s p =
    then counting _ (number-told s p) (λ k q.
    then counting _ (number-told k.rest q) (λ u r.
    then counting _ (next-told unexpected_end u.rest r) (λ x t.
    warns counting (not (eqb (num x.value) 0)) NonZeroPadding refl (returns counting _ t.1))))

size-told : (z : ℤ) (s : Stream) → Left s → Told of_any (Leaves {A = ℕ}) (written_size z >>= λ n. return (record { value = n; rest = s }))
size-told (pos n) s p = value p refl
size-told (negsuc n) s p = refusal refl

update-size-told : (o : Option ℕ) (s : Stream) → Left s → Told of_any (Leaves {A = ℕ}) (update_size o s)
unfolding update_size
update-size-told (some n) s p = returns counting _ p
update-size-told none s p = then counting _ (next-told item_diffs_unpacking s p) (λ x q. size-told x.value x.rest q.1)

head-told : (sizes : List ℤ) (s : Stream) → Left s → Told of_any (λ (g : Got Head). (g.value.key < 2 ^ 32) × Leaves g) (read_head sizes s)
unfolding read_head
head-told sizes s p =
    then counting _ (next-told item_diffs_unpacking s p) (λ t q.
    then counting _ (next-told item_diffs_unpacking t.rest q.1) (λ i r.
    given counting (ltb (num t.value) 65536) _ (λ e. given counting (ltb (num i.value) 65536) _ (λ f.
    then counting _ (update-size-told (known_size sizes (num t.value)) i.rest r.1) (λ n u.
    returns counting _ (fits (num t.value) (num i.value) e f, u))))))
  where
    fits : (t i : ℕ) → ltb t 65536 ≡ true → ltb i 65536 ≡ true → key_of t i < 2 ^ 32
    fits t i e f = omega (arith, ltb-true t 65536 e, ltb-true i 65536 f)

update-told : (sizes : List ℤ) (s : Stream) → Left s → Told of_any (λ (g : Got Item). (g.value.key < 2 ^ 32) × Leaves g) (read_update sizes s)
unfolding read_update
update-told sizes s p =
    then counting _ (head-told sizes s p) (λ h q.
    then counting _ (ints-told item_diffs_unpacking h.value.size h.rest q.1) (λ l r. returns counting _ (q.0, r.1)))

-- the ints of what was read and of what is left are at most as many as before
with-ints : {A : Type 0} {P : Got A → Type 0} {base : ℕ} {many : A → ℕ} {s : Stream} {o : Outcome (Got A)} → Told of_any P o → Reads base many s o → Told of_any (λ (g : Got A). P g × (many g.value + length (ints g.rest) ≤ base + length (ints s))) o
with-ints (value p e) (got x y) = value (p, y) e
with-ints (refusal e) (refused x) = refusal e

-- ---- the updates

fit-more : (l : List Item) (u : Item) → keys_fit (keys l) ≡ true → u.key < 2 ^ 32 → keys_fit (keys (l ++ u ∷ [])) ≡ true
unfolding keys_fit
fit-more [] u e h = rw (lt-ltb u.key (2 ^ 32) h)
fit-more (x ∷ l) u e h = let p = both (ltb x.key (2 ^ 32)) _ e in rw p.0 (fit-more l u p.1 h)

-- keys of 32 bits, and room for at most one and a half times as many ints
abbrev Few : ℕ → List Item → Type 0
Few n l = (keys_fit (keys l) ≡ true) × (2 * length (updates_ints [] l) ≤ n)

-- one more update
room-more : (l : List Item) (u : Item) (a b : ℕ) → 2 + length u.values + a ≤ 0 + b → 2 * length (updates_ints [] (l ++ u ∷ [])) + 3 * a ≤ 2 * length (updates_ints [] l) + 3 * b
unfolding updates_ints
room-more l u a b h = omega (arith, length-updates l (u ∷ []), length-update u, length-append (update_ints [] u) [])

updates-told : (sizes : List ℤ) (deleted : List ℕ) (n : ℕ) (l : List Item) (s : Stream) → keys_fit (keys l) ≡ true → Left s → Told of_any (Few (2 * length (updates_ints [] l) + 3 * length (ints s))) (read_updates sizes deleted n l s)
unfolding read_updates
updates-told sizes deleted zero l s e p = returns counting l (e, omega arith)
updates-told sizes deleted (suc n) l s e p =
    either counting (is_end s) (returns counting l (e, omega arith))
    (then counting _ (with-ints (update-told sizes s p) (update-reads sizes s)) (λ u q.
    warns counting (is_some (find u.value.key l)) DuplicateUpdate refl
    (warns counting (elem u.value.key deleted) DeleteUpdate refl
    (weaker (λ k r. (r.0, omega (arith, r.1, room-more l u.value (length (ints u.rest)) (length (ints s)) q.1)))
    (updates-told sizes deleted n (l ++ u.value ∷ []) u.rest (fit-more l u.value e q.0.0) q.0.1)))))

-- ---- a delta

-- a delta that was read from at most n integers
pub record Sound (n : ℕ) (r : DeltaRead) : Type 0 where
  pub in_order : is_in_order r.delta ≡ true
  pub room : length (written_delta r.delta) ≤ r.room
  pub few : 2 * r.room ≤ 3 * n

bits_fit : {l : List ℤ} → Whole l → keys_fit (map bits l) ≡ true
unfolding keys_fit
bits_fit nil = refl
bits_fit (cons {x = x} f h) = rw (lt-ltb (bits x) (2 ^ 32) (bits-lt f)) (bits_fit h)

sound : (n : ℕ) (values : List ℤ) (items : List Item) → Whole values → keys_fit (keys items) ≡ true → 6 + 2 * length values + 2 * length (updates_ints [] items) ≤ 3 * n → Sound n (delta_read (map bits values) items)
unfolding is_in_order
sound n values items h k m =
    record {
      in_order = rw (ordered_keys-rise (map bits values) (bits_fit h), ordered-rises (λ (x : Item). x.key) items k);
      room =
          omega (
            arith,
            length-delta_ints [] (delta_read (map bits values) items).delta,
            length-ordered_keys (map bits values),
            length-ordered_updates items,
          );
      few = omega (arith, length-bits values);
    }

-- a delta that is read from bytes is sound
read-sound : (sizes : List ℤ) (bytes : List ℕ) → Told of_any (Sound (length bytes)) (read_delta sizes (stream bytes))
unfolding read_delta
read-sound sizes bytes =
    then counting _ (with-ints (header-told (stream bytes) (stream-whole bytes)) (header-reads (stream bytes))) (λ h p.
    then counting _ (with-ints (ints-told deleted_items_unpacking h.value.deleted h.rest p.0) (ints-reads deleted_items_unpacking h.value.deleted 0 h.rest)) (λ l q.
    warns counting (not (eqb (length (ordered_keys (map bits l.value))) (length (map bits l.value)))) DuplicateDelete refl
    (then counting _ (updates-told sizes (map bits l.value) (length (ints l.rest) + 1) [] l.rest none-fit q.0.1) (λ us r.
    warns counting (not (eqb (length us) h.value.updated)) NumUpdatedItems refl
    (returns counting _ (sound (length bytes) l.value us q.0.0 r.0 (enough (length (ints (stream bytes))) (length (ints h.rest)) (length (ints l.rest)) (length l.value) (length (updates_ints [] us)) (few-ints bytes) p.1 q.1 (room (length (ints l.rest)) _ r.1))))))))
  where
    none-fit : keys_fit [] ≡ true
    none-fit = unfold keys_fit in refl

    room : (a b : ℕ) → 2 * b ≤ 2 * length (updates_ints [] []) + 3 * a → 2 * b ≤ 3 * a
    room a b h = unfold updates_ints in omega arith

    enough : (s h l v u : ℕ) → s ≤ length bytes → 3 + h ≤ 0 + s → 0 + v + l ≤ 0 + h → 2 * u ≤ 3 * l → 6 + 2 * v + 2 * u ≤ 3 * length bytes
    enough s h l v u a b c d = omega arith

-- and with warnings of its own kinds
pub read_told : (sizes : List ℤ) (bytes : List ℕ) → Told of_reading (Sound (length bytes)) (read_delta sizes (stream bytes))
read_told sizes bytes = together (Kinds.read_told sizes (stream bytes) (stream-kinds bytes)) (read-sound sizes bytes)
