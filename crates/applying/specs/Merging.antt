-- What is known during the merge of a base with a delta's updates. Assumes nothing.
use Rattle.std.specs.Prelude.{ℕ, ◌+◌, ◌-◌, ◌<◌, ◌≤◌, ◌≡◌, true, List, [], ℤ, length}
use Rattle.definitions.specs.Tables.{Table, items, item_at, key_at}
use Rattle.definitions.specs.Deltas.{update_key, updates}
use Rattle.definitions.specs.DeltaMaking.{alike}
use Rattle.laws.specs.DeltaShape.{Updates}
use Rattle.laws.specs.ApplyMerge.{Ahead, merged}
use Rattle.laws.specs.ApplyHalves.{run}
use Rattle.laws.specs.ApplyWriting.{Room, Writing}
use Rattle.apply_judging.specs.Judging.{deleted_of}
use Rattle.applying.specs.declared.checked.Merge.{Merge}
use Rattle.applying.specs.declared.checked.Next.{Next}
use Rattle.applying.specs.declared.checked.Next.TheVariants as next

-- the items of a base up to some place, and the updates, that are still to be merged
unfoldable pub rest_of : List ℤ → ℕ → List ℤ → ℕ → Merge → Table
rest_of base to delta deleted s =
    merged (deleted_of delta deleted) (run (item_at base) s.item (to - s.item)) (updates [] delta s.update s.left)

-- the places are within the areas, the updates are as long as the base's data, and there is room for the rest
pub record Going (base : List ℤ) (nb to : ℕ) (delta : List ℤ) (deleted n long : ℕ) (s : Merge) : Type 0 where
  pub item-within : s.item ≤ to
  pub to-within : to ≤ nb
  pub lie : Updates [] delta s.update s.left
  pub same-long : alike (items base) (updates [] delta s.update s.left) ≡ true
  pub hint : s.hint ≤ deleted
  pub room : Room n long s.items s.at (rest_of base to delta deleted s)

-- the next step: an item whose key is before all updates, one whose key is that of the next update, or an update before all items
abbrev pub Comes : List ℤ → ℕ → List ℤ → Merge → Next → Type 0
Comes base to delta s next.Item = (s.item < to) × Ahead (key_at base s.item) (updates [] delta s.update s.left)
Comes base to delta s next.Both = (s.item < to) × (0 < s.left) × (key_at base s.item ≡ update_key delta s.update)
Comes base to delta s next.Update = (0 < s.left) × (s.item < to → update_key delta s.update < key_at base s.item)

-- one item or update was merged
pub record Turned (base : List ℤ) (nb to : ℕ) (delta : List ℤ) (deleted n : ℕ) (out : List ℤ) (s : Merge) (out' : List ℤ) (r : Merge) : Type 0 where
  pub going : Going base nb to delta deleted n (length out') r
  pub writing : Writing n out s.items s.at (rest_of base to delta deleted s) out' r.items r.at (rest_of base to delta deleted r)
  pub less : (to - r.item) + r.left < (to - s.item) + s.left
