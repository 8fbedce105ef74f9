-- Reading a delta from a stream of integers, packed or not. Assumes nothing.
use Rattle.std.specs.Prelude.{Bool, true, false, cond, not, ◌||◌, List, [], ◌∷◌, ◌++◌, map, ℕ, zero, suc, ◌+◌, ltb, eqb, ℤ, pos, negsuc, length}
use Rattle.std.proofs.Math.Option.{Option, some, none}
use Rattle.definitions.specs.Ints.{bits}
use Rattle.definitions.specs.Refusals.{unexpected_end, deleted_items_unpacking, item_diffs_unpacking, type_id_range, id_range, negative_size, non_zero_int_padding}
use Rattle.definitions.specs.Warnings.{NonZeroPadding, DuplicateDelete, DuplicateUpdate, DeleteUpdate, NumUpdatedItems}
use Rattle.definitions.specs.Warnings as Warnings
use Rattle.definitions.specs.Outcome.{Outcome, ok, return, refuse, require, warn_if, ◌>>=◌, ◌>>◌}
use Rattle.definitions.specs.Stream.{Stream, int, end, cut, padded, ints}
use Rattle.definitions.specs.Tables.{Item, key_of, num, find, is_some}
use Rattle.definitions.specs.TableReading.{non_negative}
use Rattle.definitions.specs.Deltas.{Delta, rank, known_size, updates_ints}

-- what was read from the front of a stream, and the rest
pub record Got (A : Type 0) : Type 0 where
  pub value : A
  pub rest : Stream

-- ints as a stream, without a warning
abbrev pub int_stream : List ℤ → Stream
int_stream [] = end
int_stream (x ∷ l) = int x Warnings.none (int_stream l)

-- whether nothing is left, not even an integer that is cut or has padding bits
abbrev pub is_end : Stream → Bool
is_end (int x w s) = false
is_end end = true
is_end cut = false
is_end padded = false

-- the next integer; without one the stream is refused, and padding bits are refused as such wherever an end is
abbrev pub next : ℕ → Stream → Outcome (Got ℤ)
next refusal (int x w s) = ok (record { value = x; rest = s }) w
next refusal end = refuse refusal
next refusal cut = refuse refusal
next refusal padded = refuse non_zero_int_padding

-- the next n integers
unfoldable pub next_ints : ℕ → ℕ → Stream → Outcome (Got (List ℤ))
next_ints refusal zero s = return (record { value = []; rest = s })
next_ints refusal (suc n) s = do
  x ← next refusal s
  l ← next_ints refusal n x.rest
  return (record { value = x.value ∷ l.value; rest = l.rest })

-- a number of the header, which must not be negative
unfoldable pub header_number : Stream → Outcome (Got ℕ)
header_number s = do
  x ← next unexpected_end s
  n ← non_negative x.value
  return (record { value = n; rest = x.rest })

-- a size that is written must not be negative
abbrev pub written_size : ℤ → Outcome ℕ
written_size (pos n) = return n
written_size (negsuc n) = refuse negative_size

-- how many differences follow: the known size, or the next integer
unfoldable pub update_size : Option ℕ → Stream → Outcome (Got ℕ)
update_size (some n) s = return (record { value = n; rest = s })
update_size none s = do
  x ← next item_diffs_unpacking s
  n ← written_size x.value
  return (record { value = n; rest = x.rest })

-- the key of an update, and how many differences follow
pub record Head : Type 0 where
  pub key : ℕ
  pub size : ℕ

-- type, id, size unless known
unfoldable pub read_head : List ℤ → Stream → Outcome (Got Head)
read_head sizes s = do
  type ← next item_diffs_unpacking s
  id ← next item_diffs_unpacking type.rest
  require (ltb (num type.value) 65536) type_id_range
  require (ltb (num id.value) 65536) id_range
  size ← update_size (known_size sizes (num type.value)) id.rest
  return (record {
    value = record { key = key_of (num type.value) (num id.value); size = size.value };
    rest = size.rest;
  })

-- an update: its head, then its differences
unfoldable pub read_update : List ℤ → Stream → Outcome (Got Item)
read_update sizes s = do
  head ← read_head sizes s
  values ← next_ints item_diffs_unpacking head.value.size head.rest
  return (record { value = record { key = head.value.key; values = values.value }; rest = values.rest })

-- whether a key is among some keys
abbrev pub elem : ℕ → List ℕ → Bool
elem k [] = false
elem k (x ∷ l) = eqb k x || elem k l

-- the updates up to the end of the stream, after those before; at most n more
unfoldable pub read_updates : List ℤ → List ℕ → ℕ → List Item → Stream → Outcome (List Item)
read_updates sizes deleted zero before s = return before
read_updates sizes deleted (suc n) before s =
    cond (is_end s) (return before) do
      u ← read_update sizes s
      warn_if (is_some (find u.value.key before)) DuplicateUpdate
      warn_if (elem u.value.key deleted) DeleteUpdate
      read_updates sizes deleted n (before ++ u.value ∷ []) u.rest

-- ---- in signed order of keys, each key once

module _ {A : Type 0} (key : A → ℕ) where
  -- x in its place by rank, unless its key is there
  unfoldable pub put : A → List A → List A
  put x [] = x ∷ []
  put x (y ∷ l) =
      cond (ltb (rank (key x)) (rank (key y))) (x ∷ y ∷ l)
      (cond (eqb (rank (key x)) (rank (key y))) (y ∷ l) (y ∷ put x l))

  -- all in order; of several with the same key, the last
  unfoldable pub ordered : List A → List A
  ordered [] = []
  ordered (x ∷ l) = put x (ordered l)

-- keys in order
abbrev pub ordered_keys : List ℕ → List ℕ
ordered_keys l = ordered (λ (k : ℕ). k) l

-- updates in order
abbrev pub ordered_updates : List Item → List Item
ordered_updates l = ordered (λ (x : Item). x.key) l

-- ---- a delta

-- a delta, and how many ints it would take with repeated entries
pub record DeltaRead : Type 0 where
  pub delta : Delta
  pub room : ℕ

-- what was read, put in order
abbrev pub delta_read : List ℕ → List Item → DeltaRead
delta_read deleted updated =
    record {
      delta = record { deleted = ordered_keys deleted; updated = ordered_updates updated };
      room = 3 + length deleted + length (updates_ints [] updated);
    }

-- how many deleted keys and updates a delta claims to have
pub record DeltaHeader : Type 0 where
  pub deleted : ℕ
  pub updated : ℕ

-- deleted count, updated count, padding
unfoldable pub read_delta_header : Stream → Outcome (Got DeltaHeader)
read_delta_header s = do
  k ← header_number s
  u ← header_number k.rest
  padding ← next unexpected_end u.rest
  warn_if (not (eqb (num padding.value) 0)) NonZeroPadding
  return (record { value = record { deleted = k.value; updated = u.value }; rest = padding.rest })

-- header, deleted keys, updates to the end
unfoldable pub read_delta : List ℤ → Stream → Outcome DeltaRead
read_delta sizes s = do
  header ← read_delta_header s
  l ← next_ints deleted_items_unpacking header.value.deleted header.rest
  let deleted : List ℕ = map bits l.value
  warn_if (not (eqb (length (ordered_keys deleted)) (length deleted))) DuplicateDelete
  updated ← read_updates sizes deleted (length (ints l.rest) + 1) [] l.rest
  warn_if (not (eqb (length updated) header.value.updated)) NumUpdatedItems
  return (delta_read deleted updated)
