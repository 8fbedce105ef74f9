-- The 12 kinds of warning, and a count for each. Assumes nothing.
use Rattle.std.specs.Prelude.{cond, ℕ, ◌+◌, eqb}

-- the kinds: one of the packer, eight of tables and deltas, two of the receiver, one of the store
pub data Warning : Type 0 where
  OverlongIntEncoding : Warning
  NonZeroPadding DuplicateDelete DuplicateUpdate UnknownDelete : Warning
  DeleteUpdate NumUpdatedItems ExcessSnapData ExcessUuidItemData : Warning
  DuplicateSnap DifferingAttributes : Warning
  WeirdNegativeDeltaTick : Warning

-- the place of a kind in a row of counts
abbrev pub index : Warning → ℕ
index OverlongIntEncoding = 0
index NonZeroPadding = 1
index DuplicateDelete = 2
index DuplicateUpdate = 3
index UnknownDelete = 4
index DeleteUpdate = 5
index NumUpdatedItems = 6
index ExcessSnapData = 7
index ExcessUuidItemData = 8
index DuplicateSnap = 9
index DifferingAttributes = 10
index WeirdNegativeDeltaTick = 11

-- how often each kind was counted
pub record Counts : Type 0 where
  pub overlong_int_encoding : ℕ
  pub non_zero_padding : ℕ
  pub duplicate_delete : ℕ
  pub duplicate_update : ℕ
  pub unknown_delete : ℕ
  pub delete_update : ℕ
  pub num_updated_items : ℕ
  pub excess_snap_data : ℕ
  pub excess_uuid_item_data : ℕ
  pub duplicate_snap : ℕ
  pub differing_attributes : ℕ
  pub weird_negative_delta_tick : ℕ

-- the counts with a number for each kind
abbrev pub counted : (Warning → ℕ) → Counts
counted f =
    record {
      overlong_int_encoding = f OverlongIntEncoding;
      non_zero_padding = f NonZeroPadding;
      duplicate_delete = f DuplicateDelete;
      duplicate_update = f DuplicateUpdate;
      unknown_delete = f UnknownDelete;
      delete_update = f DeleteUpdate;
      num_updated_items = f NumUpdatedItems;
      excess_snap_data = f ExcessSnapData;
      excess_uuid_item_data = f ExcessUuidItemData;
      duplicate_snap = f DuplicateSnap;
      differing_attributes = f DifferingAttributes;
      weird_negative_delta_tick = f WeirdNegativeDeltaTick;
    }

-- the count of a kind
abbrev pub count : Counts → Warning → ℕ
count c OverlongIntEncoding = c.overlong_int_encoding
count c NonZeroPadding = c.non_zero_padding
count c DuplicateDelete = c.duplicate_delete
count c DuplicateUpdate = c.duplicate_update
count c UnknownDelete = c.unknown_delete
count c DeleteUpdate = c.delete_update
count c NumUpdatedItems = c.num_updated_items
count c ExcessSnapData = c.excess_snap_data
count c ExcessUuidItemData = c.excess_uuid_item_data
count c DuplicateSnap = c.duplicate_snap
count c DifferingAttributes = c.differing_attributes
count c WeirdNegativeDeltaTick = c.weird_negative_delta_tick

-- no warning
abbrev pub none : Counts
none = counted (λ k. 0)

-- one warning of a kind
abbrev pub one : Warning → Counts
one w = counted (λ k. cond (eqb (index k) (index w)) 1 0)

-- both, added up
abbrev pub plus : Counts → Counts → Counts
plus a b = counted (λ k. count a k + count b k)
