-- The steps of reading a head and a header, and what the function for each step returns. Assumes nothing.
use Rattle.std.specs.Prelude.{◌≡◌, not, List, ℕ, ◌/◌, ◌≤◌, ltb, eqb, ℤ, Result, Ok, Err}
use Rattle.std.proofs.Math.Option.{Option, some, none}
use Rattle.definitions.specs.Ints.{bits}
use Rattle.definitions.specs.Refusals.{unexpected_end, type_id_range, id_range}
use Rattle.definitions.specs.Warnings.{NonZeroPadding, plus}
use Rattle.definitions.specs.Outcome.{Outcome, ok, err, return, require, warn_if, ◌>>=◌, ◌>>◌}
use Rattle.definitions.specs.Stream.{Stream}
use Rattle.definitions.specs.Tables.{key_of, num}
use Rattle.definitions.specs.Deltas.{known_size}
use Rattle.definitions.specs.DeltaReading.{Got, DeltaHeader, next, header_number, update_size}
use Rattle.definitions.specs.DeltaReading as Reading
use Rattle.laws.specs.WarningLaws.{packed}
use Rattle.format.specs.Numbers.{number}
use Rattle.delta_source.specs.Source.{Source, from, size, behind_ints, odd_padding}
use Rattle.delta_source.specs.declared.checked.Refusal.{Refusal}
use Rattle.delta_source.specs.declared.checked.Head.{Head}
use Rattle.delta_source.specs.declared.checked.Header.{Header}
use Rattle.delta_source.specs.declared.checked.Number.{Number}

-- ---- a head

-- how many ints a size takes: none if it is known
abbrev pub size_length : Option ℕ → ℕ
size_length (some m) = 0
size_length none = 1

-- the head with a key, given what is known of its size
unfoldable pub size_of : Option ℕ → ℕ → Stream → Outcome (Got Reading.Head)
size_of o key s = do
  size ← update_size o s
  return (record { value = record { key = key; size = size.value }; rest = size.rest })

-- the head with a type and an id
unfoldable pub head_of : List ℤ → ℤ → ℤ → Stream → Outcome (Got Reading.Head)
head_of sizes type id s = do
  require (ltb (num type) 65536) type_id_range
  require (ltb (num id) 65536) id_range
  size_of (known_size sizes (num type)) (key_of (num type) (num id)) s

-- a head that was read from the place of its size on, or why there is none
pub data HeadOf (s : Source) (sizes : List ℤ) (at : ℕ) (o : Outcome (Got Reading.Head)) : Result Head Refusal → Type 0 where
  update :
      {h : Head} → o ≡ ok (record { value = record { key = bits h.key; size = h.size }; rest = from s h.start }) (packed h.overlong) →
      h.start ≡ behind_ints s at (size_length (known_size sizes (bits h.key / 65536))) → at ≤ h.start → h.start ≤ size s → HeadOf s sizes at o (Ok h)
  refused : {r : Refusal} → o ≡ err (number r.error) (packed r.overlong) → HeadOf s sizes at o (Err r)

-- ---- a header

-- the header with its two numbers: its padding
unfoldable pub padding_of : ℕ → ℕ → Stream → Outcome (Got DeltaHeader)
padding_of deleted updated s = do
  padding ← next unexpected_end s
  warn_if (not (eqb (num padding.value) 0)) NonZeroPadding
  return (record { value = record { deleted = deleted; updated = updated }; rest = padding.rest })

-- a number of the header, or why there is none
pub data Numbers (s : Source) (at : ℕ) : Result Number Refusal → Type 0 where
  some_number :
      {n : Number} → header_number (from s at) ≡ ok (record { value = n.value; rest = from s n.next }) (packed n.overlong) → n.overlong ≤ 1 → n.next ≤ size s →
      Numbers s at (Ok n)
  refused : {r : Refusal} → header_number (from s at) ≡ err (number r.error) (packed r.overlong) → r.overlong ≤ 1 → Numbers s at (Err r)

-- a header that was read, or why there is none
pub data HeaderOf (s : Source) (o : Outcome (Got DeltaHeader)) : Result Header Refusal → Type 0 where
  delta :
      {h : Header} →
      o ≡ ok (record { value = record { deleted = h.deleted; updated = h.updated }; rest = from s h.next }) (plus (packed h.overlong) (odd_padding h.odd)) →
      h.next ≤ size s → HeaderOf s o (Ok h)
  refused : {r : Refusal} → o ≡ err (number r.error) (packed r.overlong) → HeaderOf s o (Err r)
