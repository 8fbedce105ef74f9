-- What is before the updates of a delta, what its updates amount to, and updates in an area. Assumes nothing.
use Rattle.std.specs.Prelude.{◌≡◌, List, [], ◌++◌, ℕ, ◌+◌, ◌*◌, ◌≤◌, ℤ, length, drop}
use Rattle.definitions.specs.Refusals.{deleted_items_unpacking}
use Rattle.definitions.specs.Warnings.{plus}
use Rattle.definitions.specs.Outcome.{ok}
use Rattle.definitions.specs.Tables.{Item}
use Rattle.definitions.specs.Deltas.{updates_ints}
use Rattle.definitions.specs.DeltaReading.{next_ints, read_delta_header}
use Rattle.laws.specs.WarningLaws.{packed}
use Rattle.delta_index.specs.declared.checked.Tally.{Tally}
use Rattle.delta_source.specs.Source.{Source, from, size, odd_padding}
use Rattle.delta_entries.specs.Told.{Told, Tallies}
use Rattle.delta_any_order.specs.declared.checked.Front.{Front}

-- header and deleted keys were read, up to where the updates begin
pub record Fronts (s : Source) (f : Front) : Type 0 where
  pub values : List ℤ
  pub overlong-header : ℕ
  pub overlong-keys : ℕ
  pub header_is :
      read_delta_header (from s 0)
      ≡ ok (record { value = record { deleted = f.deleted; updated = f.updated }; rest = from s f.keys })
      (plus (packed overlong-header) (odd_padding f.odd))
  pub keys-are :
      next_ints deleted_items_unpacking f.deleted (from s f.keys) ≡ ok (record { value = values; rest = from s f.first }) (packed overlong-keys)
  pub overlong-is : f.overlong ≡ overlong-header + overlong-keys
  pub count : length values ≡ f.deleted
  pub few-keys : f.deleted ≤ size s
  pub few-overlong : f.overlong ≤ 2 * size s
  pub keys-inside : f.keys ≤ size s
  pub behind : 1 ≤ f.first
  pub first-inside : f.first ≤ size s

-- keys and updates were found, with the room that the updates take and the counts of them
pub record Weighs (s : Source) (sizes : List ℤ) (f : Front) (n room : ℕ) (t : Tally) : Type 0 where
  pub values : List ℤ
  pub items : List Item
  pub told : Told s sizes f.keys f.deleted f.first n values items
  pub key-count : length values ≡ f.deleted
  pub room-is : room ≡ length (updates_ints [] items)
  pub tallied : Tallies values items t
  pub few-keys : f.deleted ≤ size s
  pub few-updates : t.updated ≤ n
  pub more_room : n ≤ room
  pub few-room : 2 * room ≤ 3 * size s

-- n updates are in an area from a place on, up to another
pub record Laid (area : List ℤ) (at n end : ℕ) : Type 0 where
  pub items : List Item
  pub rest : List ℤ
  pub stands : drop at area ≡ updates_ints [] items ++ rest
  pub count : length items ≡ n
  pub ends : at + length (updates_ints [] items) ≡ end
