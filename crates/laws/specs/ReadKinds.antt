-- Reading a delta counts warnings of its own kinds. Assumes nothing.
use Rattle.std.specs.Prelude.{◌≡◌, refl, Bool, true, false, not, List, [], ◌∷◌, ◌++◌, map, ℕ, zero, suc, ◌+◌, ◌*◌, ◌%◌, ltb, leb, eqb, ℤ, pos, negsuc, length, take}
use Rattle.std.proofs.Math.Option.{Option, some, none}
use Rattle.definitions.specs.Ints.{bits}
use Rattle.definitions.specs.Refusals.{unexpected_end, deleted_items_unpacking, item_diffs_unpacking, type_id_range, id_range, capacity_error}
use Rattle.definitions.specs.Warnings.{NonZeroPadding, DuplicateDelete, DuplicateUpdate, DeleteUpdate, NumUpdatedItems}
use Rattle.definitions.specs.Outcome.{Outcome, return, ◌>>=◌}
use Rattle.definitions.specs.Packed.{Read, warned, extend, sign, more, read_int}
use Rattle.definitions.specs.Stream.{Stream, int, end, cut, padded, and_then, stream_up_to, stream, ints}
use Rattle.definitions.specs.Tables.{Item, num, find, is_some}
use Rattle.definitions.specs.TableReading.{non_negative}
use Rattle.definitions.specs.Deltas.{Delta, known_size}
use Rattle.definitions.specs.DeltaReading.{Got, Head, DeltaHeader, DeltaRead, is_end, elem, next, next_ints, header_number, written_size, update_size, read_head, read_update, read_updates, ordered_keys, read_delta_header, read_delta}
use Rattle.definitions.specs.Receiver.{DataAndCrc}
use Rattle.definitions.specs.Manager.{received_delta, fitting_delta}
use Rattle.laws.specs.StreamLaws.{either_end}
use Rattle.laws.specs.WarningKinds.{of_reading, Told, value, refusal, Any, reading, returns, given, warns, either, then}

-- ---- the integers of some bytes

-- each integer of a stream has warnings of these kinds
abbrev pub Kinds : Stream → Type 0
Kinds (int x w s) = (w ≡ of_reading w) × Kinds s
Kinds end = Unit {0}
Kinds cut = Unit {0}
Kinds padded = Unit {0}

-- a packed integer has
warned-kinds : (overlong : Bool) → warned overlong ≡ of_reading (warned overlong)
warned-kinds true = refl
warned-kinds false = refl

-- so have its bytes after the first
more-told : (n w d : ℕ) (s : Bool) (l : List ℕ) → Told of_reading (Any {A = Read}) (more n w d s l)
unfolding more
more-told n w d s [] = refusal refl
more-told zero w d s (b ∷ bs) = either reading (leb 16 b) (refusal refl) (value tt (warned-kinds (eqb b 0)))
more-told (suc n) w d s (b ∷ bs) =
    either reading (extend b) (more-told n (w * 128) (d + b % 128 * w) s bs) (value tt (warned-kinds (eqb b 0)))

-- the integer at the front
int-told : (l : List ℕ) → Told of_reading (Any {A = Read}) (read_int l)
unfolding read_int
int-told [] = refusal refl
int-told (b ∷ bs) = either reading (extend b) (more-told 3 64 (b % 64) (sign b) bs) (value tt refl)

-- it, and then the rest
then-kinds : {o : Outcome Read} (k : List ℕ → Stream) → Told of_reading (Any {A = Read}) o → ((rest : List ℕ) → Kinds (k rest)) → Kinds (and_then o k)
then-kinds k (value {a = r} p e) f = (e, f r.rest)
then-kinds k (refusal {n = n} e) f = either_end Kinds n tt tt

-- at most n integers
up-to-kinds : (n : ℕ) (l : List ℕ) → Kinds (stream_up_to n l)
up-to-kinds zero l = tt
up-to-kinds (suc n) [] = tt
up-to-kinds (suc n) (b ∷ bs) = then-kinds (λ rest. stream_up_to n rest) (int-told (b ∷ bs)) (λ rest. up-to-kinds n rest)

-- all of them
pub stream-kinds : (l : List ℕ) → Kinds (stream l)
unfolding stream
stream-kinds l = up-to-kinds (length l) l

-- ---- reading a delta

-- a value that leaves such a stream
abbrev Leaves : {A : Type 0} → Got A → Type 0
Leaves g = Kinds g.rest

-- the next integer
next-told : (n : ℕ) (s : Stream) → Kinds s → Told of_reading (Leaves {A = ℤ}) (next n s)
next-told n (int x w s) (e, k) = value k e
next-told n end p = refusal refl
next-told n cut p = refusal refl
next-told n padded p = refusal refl

-- the next n integers
ints-told : (m n : ℕ) (s : Stream) → Kinds s → Told of_reading (Leaves {A = List ℤ}) (next_ints m n s)
unfolding next_ints
ints-told m zero s p = returns reading _ p
ints-told m (suc n) s p =
    then reading _ (next-told m s p) (λ x q. then reading _ (ints-told m n x.rest q) (λ l r. returns reading _ r))

-- a count that must not be negative
count-told : (z : ℤ) (s : Stream) → Kinds s → Told of_reading (Leaves {A = ℕ}) (non_negative z >>= λ n. return (record { value = n; rest = s }))
count-told (pos n) s p = value p refl
count-told (negsuc n) s p = refusal refl

-- a number of the header
number-told : (s : Stream) → Kinds s → Told of_reading (Leaves {A = ℕ}) (header_number s)
unfolding header_number
number-told s p = then reading _ (next-told unexpected_end s p) (λ x q. count-told x.value x.rest q)

-- the header
header-told : (s : Stream) → Kinds s → Told of_reading (Leaves {A = DeltaHeader}) (read_delta_header s)
unfolding read_delta_header
header-told s p =
    then reading _ (number-told s p) (λ k q.
    then reading _ (number-told k.rest q) (λ u r.
    then reading _ (next-told unexpected_end u.rest r) (λ x t.
    warns reading (not (eqb (num x.value) 0)) NonZeroPadding refl (returns reading _ t))))

-- a size that is written
size-told : (z : ℤ) (s : Stream) → Kinds s → Told of_reading (Leaves {A = ℕ}) (written_size z >>= λ n. return (record { value = n; rest = s }))
size-told (pos n) s p = value p refl
size-told (negsuc n) s p = refusal refl

-- how many differences follow
update-size-told : (o : Option ℕ) (s : Stream) → Kinds s → Told of_reading (Leaves {A = ℕ}) (update_size o s)
unfolding update_size
update-size-told (some n) s p = returns reading _ p
update-size-told none s p = then reading _ (next-told item_diffs_unpacking s p) (λ x q. size-told x.value x.rest q)

-- the head of an update
head-told : (sizes : List ℤ) (s : Stream) → Kinds s → Told of_reading (Leaves {A = Head}) (read_head sizes s)
unfolding read_head
head-told sizes s p =
    then reading _ (next-told item_diffs_unpacking s p) (λ t q.
    then reading _ (next-told item_diffs_unpacking t.rest q) (λ i r.
    given reading (ltb (num t.value) 65536) type_id_range (λ _. given reading (ltb (num i.value) 65536) id_range (λ _.
    then reading _ (update-size-told (known_size sizes (num t.value)) i.rest r) (λ n u. returns reading _ u)))))

-- an update
update-told : (sizes : List ℤ) (s : Stream) → Kinds s → Told of_reading (Leaves {A = Item}) (read_update sizes s)
unfolding read_update
update-told sizes s p =
    then reading _ (head-told sizes s p) (λ h q.
    then reading _ (ints-told item_diffs_unpacking h.value.size h.rest q) (λ l r. returns reading _ r))

-- the updates
updates-told : (sizes : List ℤ) (deleted : List ℕ) (n : ℕ) (l : List Item) (s : Stream) → Kinds s → Told of_reading (Any {A = List Item}) (read_updates sizes deleted n l s)
unfolding read_updates
updates-told sizes deleted zero l s p = returns reading l tt
updates-told sizes deleted (suc n) l s p =
    either reading (is_end s) (returns reading l tt)
    (then reading _ (update-told sizes s p) (λ u q.
    warns reading (is_some (find u.value.key l)) DuplicateUpdate refl
    (warns reading (elem u.value.key deleted) DeleteUpdate refl
    (updates-told sizes deleted n (l ++ u.value ∷ []) u.rest q))))

-- a delta
pub read_told : (sizes : List ℤ) (s : Stream) → Kinds s → Told of_reading (Any {A = DeltaRead}) (read_delta sizes s)
unfolding read_delta
read_told sizes s p =
    then reading _ (header-told s p) (λ h q.
    then reading _ (ints-told deleted_items_unpacking h.value.deleted h.rest q) (λ l r.
    warns reading (not (eqb (length (ordered_keys (map bits l.value))) (length (map bits l.value)))) DuplicateDelete refl
    (then reading _ (updates-told sizes (map bits l.value) (length (ints l.rest) + 1) [] l.rest r) (λ us t.
    warns reading (not (eqb (length us) h.value.updated)) NumUpdatedItems refl (returns reading _ tt)))))

-- a delta that was received
received-told : (sizes : List ℤ) (bytes : List ℕ) (x : Option DataAndCrc) → Told of_reading (Any {A = DeltaRead}) (received_delta sizes bytes x)
received-told sizes bytes (some x) = read_told sizes (stream (take x.length bytes)) (stream-kinds (take x.length bytes))
received-told sizes bytes none = returns reading _ tt

-- it must fit
pub fitting-told : (sizes : List ℤ) (bytes : List ℕ) (n : ℕ) (x : Option DataAndCrc) → Told of_reading (Any {A = Delta}) (fitting_delta sizes bytes n x)
unfolding fitting_delta
fitting-told sizes bytes n x =
    then reading _ (received-told sizes bytes x) (λ r _. given reading (leb r.room n) capacity_error (λ _. returns reading _ tt))
