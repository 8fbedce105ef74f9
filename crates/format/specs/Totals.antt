-- What the code's warning counts mean. Assumes nothing.
use Rattle.std.specs.Prelude.{List, [], ◌∷◌, ℕ}
use Rattle.definitions.specs.Warnings.{Counts}
use Rattle.format.specs.declared.Warnings.{Warnings}

-- the warning counts of a call
abbrev pub counts : Warnings → Counts
counts w =
    record {
      overlong_int_encoding = w.overlong_int_encoding;
      non_zero_padding = w.non_zero_padding;
      duplicate_delete = w.duplicate_delete;
      duplicate_update = w.duplicate_update;
      unknown_delete = w.unknown_delete;
      delete_update = w.delete_update;
      num_updated_items = w.num_updated_items;
      excess_snap_data = w.excess_snap_data;
      excess_uuid_item_data = w.excess_uuid_item_data;
      duplicate_snap = w.duplicate_snap;
      differing_attributes = w.differing_attributes;
      weird_negative_delta_tick = w.weird_negative_delta_tick;
    }

-- the counts in the order of their kinds
abbrev pub row : Counts → List ℕ
row c =
    c.overlong_int_encoding
    ∷ c.non_zero_padding
    ∷ c.duplicate_delete
    ∷ c.duplicate_update
    ∷ c.unknown_delete
    ∷ c.delete_update
    ∷ c.num_updated_items
    ∷ c.excess_snap_data
    ∷ c.excess_uuid_item_data
    ∷ c.duplicate_snap
    ∷ c.differing_attributes
    ∷ c.weird_negative_delta_tick
    ∷ []
