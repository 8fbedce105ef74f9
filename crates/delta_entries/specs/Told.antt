-- The deleted keys and the updates of a source, and the counts of them. Assumes nothing.
use Rattle.std.specs.Prelude.{◌≡◌, List, [], ◌∷◌, map, ℕ, ◌*◌, ◌≤◌, ℤ, length}
use Rattle.definitions.specs.Ints.{bits}
use Rattle.definitions.specs.Refusals.{deleted_items_unpacking}
use Rattle.definitions.specs.Warnings.{Counts}
use Rattle.definitions.specs.Outcome.{ok}
use Rattle.definitions.specs.Stream.{Stream}
use Rattle.definitions.specs.Tables.{Item}
use Rattle.definitions.specs.DeltaReading.{next_ints, ordered_keys, ordered_updates}
use Rattle.sorting.specs.Pairs.{pairs}
use Rattle.delta_index.specs.Entries.{Placed, count_items}
use Rattle.delta_source.specs.Source.{Source, from, behind_update, Items}
use Rattle.delta_index.specs.declared.checked.Tally.{Tally}

-- updates with the places where they begin
unfoldable pub placed : Source → List ℤ → ℕ → List Item → List Placed
placed s sizes at [] = []
placed s sizes at (u ∷ us) = record { item = u; place = at } ∷ placed s sizes (behind_update s sizes at u) us

-- there are k deleted keys from one place on, n updates from another
pub record Told (s : Source) (sizes : List ℤ) (keys k first n : ℕ) (values : List ℤ) (items : List Item) : Type 0 where
  pub rest : Stream
  pub warned : Counts
  pub keys_read : next_ints deleted_items_unpacking k (from s keys) ≡ ok (record { value = values; rest = rest }) warned
  pub items_read : Items s sizes first items
  pub count : length items ≡ n

-- some entries were counted, and are in an area as pairs if they have room
pub record Filled (l : List ℕ) (n : ℕ) (a : List ℤ) : Type 0 where
  pub counted : n ≡ length l
  pub stands : 2 * n ≤ length a → pairs a n ≡ l

-- how many deleted keys there are, how many keys of updates, and how many updates are of deleted keys
pub record Tallies (values : List ℤ) (items : List Item) (t : Tally) : Type 0 where
  pub deleted-is : t.deleted ≡ length (ordered_keys (map bits values))
  pub updated-is : t.updated ≡ length (ordered_updates items)
  pub crossing_is : t.crossing ≡ count_items (map bits values) items
