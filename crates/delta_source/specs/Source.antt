-- Reading by place from packed bytes or from ints. Assumes nothing.
use Rattle.std.specs.Prelude.{◌≡◌, Bool, true, false, cond, List, [], ◌∷◌, ℕ, zero, suc, ◌+◌, ◌/◌, ◌<◌, ◌≤◌, ℤ, length, drop, Result, Ok, Err}
use Rattle.std.proofs.Math.Option.{Option, some}
use Rattle.definitions.specs.Ints.{bits}
use Rattle.definitions.specs.Areas.{lay_at}
use Rattle.definitions.specs.Warnings.{Counts, NonZeroPadding, one, plus}
use Rattle.definitions.specs.Warnings as Warnings
use Rattle.definitions.specs.Outcome.{Outcome, ok, err, refuse}
use Rattle.definitions.specs.Packed.{warned}
use Rattle.definitions.specs.Packer.{IntAt, read_int_at}
use Rattle.definitions.specs.Stream.{Stream, int, stream}
use Rattle.definitions.specs.Tables.{Item}
use Rattle.definitions.specs.Deltas.{known_size, head_length, updates_ints}
use Rattle.definitions.specs.DeltaReading.{int_stream, is_end, next_ints, read_head, read_update, read_delta_header}
use Rattle.definitions.specs.DeltaReading as Reading
use Rattle.laws.specs.WarningLaws.{packed}
use Rattle.format.specs.Numbers.{number}
use Rattle.format.specs.declared.Error.{Error}
use Rattle.packer.specs.Answers.{missing_as}
use Rattle.packer.specs.declared.IntRead.{IntRead}
use Rattle.delta_source.specs.declared.checked.Refusal.{Refusal}
use Rattle.delta_source.specs.declared.checked.Skip.{Skip}
use Rattle.delta_source.specs.declared.checked.Head.{Head}
use Rattle.delta_source.specs.declared.checked.Update.{Update}
use Rattle.delta_source.specs.declared.checked.Header.{Header}
use Rattle.delta_source.specs.declared.checked.Judged.{Judged}

-- packed bytes, or ints
pub record Source : Type 0 where
  pub packed : Bool
  pub bytes : List ℕ
  pub ints : List ℤ

abbrev pub source : Bool → List ℕ → List ℤ → Source
source p b i = record { packed = p; bytes = b; ints = i }

-- how many bytes, or ints
abbrev pub size : Source → ℕ
size s = cond s.packed (length s.bytes) (length s.ints)

-- the integers from a place on
unfoldable pub from : Source → ℕ → Stream
from s at = cond s.packed (stream (drop at s.bytes)) (int_stream (drop at s.ints))

-- the place after what was read; 0 if nothing was read
abbrev pub place_of : Outcome IntAt → ℕ
place_of (ok r w) = r.next
place_of (err n w) = 0

-- the place after the integer at a place
unfoldable pub behind : Source → ℕ → ℕ
behind s at = cond s.packed (place_of (read_int_at s.bytes at)) (at + 1)

-- the place after n integers
unfoldable pub behind_ints : Source → ℕ → ℕ → ℕ
behind_ints s at zero = at
behind_ints s at (suc n) = behind_ints s (behind s at) n

-- where the differences of an update with a key begin: after type, id, and size unless it is known
abbrev pub data_place : Source → List ℤ → ℕ → ℕ → ℕ
data_place s sizes at key = behind_ints s at (head_length (known_size sizes (key / 65536)))

-- the place after an update
abbrev pub behind_update : Source → List ℤ → ℕ → Item → ℕ
behind_update s sizes at u = behind_ints s (data_place s sizes at u.key) (length u.values)

-- the integer at a place, or why it is refused
pub data Next (s : Source) (at : ℕ) : Result IntRead Error → Type 0 where
  found :
      {r : IntRead} → from s at ≡ int r.value (warned r.overlong) (from s r.next) → r.next ≡ behind s at → at < r.next → r.next ≤ size s →
      Next s at (Ok r)
  nothing : {e : Error} → ((refusal : ℕ) → Reading.next refusal (from s at) ≡ refuse (missing_as (number e) refusal)) → Next s at (Err e)

-- n integers were skipped, or why they are not all there, where an end has this refusal
pub data Skips (s : Source) (at n refusal : ℕ) : Result Skip Refusal → Type 0 where
  past :
      {r : Skip} (xs : List ℤ) → length xs ≡ n →
      ((other : ℕ) → next_ints other n (from s at) ≡ ok (record { value = xs; rest = from s r.next }) (packed r.overlong)) →
      r.next ≡ behind_ints s at n → at ≤ r.next → r.next ≤ size s → Skips s at n refusal (Ok r)
  refused : {r : Refusal} → next_ints refusal n (from s at) ≡ err (number r.error) (packed r.overlong) → Skips s at n refusal (Err r)

-- n integers of the source are in an area from a place on
abbrev pub Copies : Source → ℕ → ℕ → ℕ → List ℤ → List ℤ → Type 0
Copies s at n to before after =
    (xs : List ℤ) (rest : Stream) (w : Counts) (refusal : ℕ) → next_ints refusal n (from s at) ≡ ok (record { value = xs; rest = rest }) w → after ≡ lay_at to xs before

-- the head of an update, or why there is none
pub data Heads (s : Source) (sizes : List ℤ) (at : ℕ) : Result Head Refusal → Type 0 where
  update :
      {h : Head} →
      read_head sizes (from s at) ≡ ok (record { value = record { key = bits h.key; size = h.size }; rest = from s h.start }) (packed h.overlong) →
      h.start ≡ data_place s sizes at (bits h.key) → at < h.start → h.start ≤ size s → Heads s sizes at (Ok h)
  refused : {r : Refusal} → read_head sizes (from s at) ≡ err (number r.error) (packed r.overlong) → Heads s sizes at (Err r)

-- an update, whose differences begin at a place, or why there is none
pub data Updates (s : Source) (sizes : List ℤ) (at : ℕ) : Result Update Refusal → Type 0 where
  update :
      {u : Update} (xs : List ℤ) (v : Counts) → length xs ≡ u.size →
      ((refusal : ℕ) → next_ints refusal u.size (from s u.start) ≡ ok (record { value = xs; rest = from s u.next }) v) →
      read_update sizes (from s at) ≡ ok (record { value = record { key = bits u.key; values = xs }; rest = from s u.next }) (packed u.overlong) →
      u.start ≡ data_place s sizes at (bits u.key) → u.next ≡ behind_ints s u.start u.size → at < u.start → u.start ≤ u.next → u.next ≤ size s →
      Updates s sizes at (Ok u)
  refused : {r : Refusal} → read_update sizes (from s at) ≡ err (number r.error) (packed r.overlong) → Updates s sizes at (Err r)

-- a warning of padding that is not 0
abbrev pub odd_padding : Bool → Counts
odd_padding odd = cond odd (one NonZeroPadding) Warnings.none

-- the header of a delta, or why there is none
pub data Headers (s : Source) : Result Header Refusal → Type 0 where
  delta :
      {h : Header} →
      read_delta_header (from s 0)
      ≡ ok (record { value = record { deleted = h.deleted; updated = h.updated }; rest = from s h.next }) (plus (packed h.overlong) (odd_padding h.odd)) →
      h.next ≤ size s → Headers s (Ok h)
  refused : {r : Refusal} → read_delta_header (from s 0) ≡ err (number r.error) (packed r.overlong) → Headers s (Err r)

-- the updates from a place on, the packer's warnings up to their end, and the refusal that ends them, if any
pub data Walks (s : Source) (sizes : List ℤ) : ℕ → List Item → Counts → Option ℕ → Type 0 where
  whole : {at : ℕ} → is_end (from s at) ≡ true → Walks s sizes at [] Warnings.none Option.none
  broken : {at n : ℕ} {w : Counts} → is_end (from s at) ≡ false → read_update sizes (from s at) ≡ err n w → Walks s sizes at [] w (some n)
  more : {at next : ℕ} {u : Item} {us : List Item} {v w : Counts} {e : Option ℕ} → is_end (from s at) ≡ false → read_update sizes (from s at) ≡ ok (record { value = u; rest = from s next }) v → next ≡ behind_update s sizes at u → at < next → next ≤ size s → Walks s sizes next us w e → Walks s sizes at (u ∷ us) (plus v w) e

-- the first updates from a place on
pub data Items (s : Source) (sizes : List ℤ) : ℕ → List Item → Type 0 where
  none : {at : ℕ} → Items s sizes at []
  more : {at next : ℕ} {u : Item} {us : List Item} {v : Counts} → read_update sizes (from s at) ≡ ok (record { value = u; rest = from s next }) v → next ≡ behind_update s sizes at u → at < next → next ≤ size s → Items s sizes next us → Items s sizes at (u ∷ us)

-- the updates that a walk meets
pub walked : {s : Source} {sizes : List ℤ} {at : ℕ} {us : List Item} {w : Counts} {e : Option ℕ} → Walks s sizes at us w e → Items s sizes at us
walked (whole h) = Items.none
walked (broken h g) = Items.none
walked (more h r q l m k) = Items.more r q l m (walked k)

-- the refusal of an ending
abbrev pub refusal_of : Result (Unit {0}) Error → Option ℕ
refusal_of (Ok x) = Option.none
refusal_of (Err e) = some (number e)

-- what judging the updates from a place on returns
pub record Judges (s : Source) (sizes : List ℤ) (at : ℕ) (j : Judged) : Type 0 where
  pub items : List Item
  pub walks : Walks s sizes at items (packed j.overlong) (refusal_of j.ended)
  pub count-is : j.updates ≡ length items
  pub room-is : j.room ≡ length (updates_ints [] items)
