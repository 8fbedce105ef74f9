-- The example of `tablelist` in docs/FORMAT.md, proved of the definitions. Assumes nothing.
use Rattle.std.specs.Prelude.{◌≡◌, refl, [], ◌∷◌}
use Rattle.definitions.specs.Ints.{bits, from_bits, wrapping_add}
use Rattle.definitions.specs.Packed.{signed, more, read_int}
use Rattle.definitions.specs.Stream.{stream}
use Rattle.definitions.specs.Tables.{body, offsets, written, num, nat, edge, start, key_at, values_at, ends, find, insert, all_values}
use Rattle.definitions.specs.TableReading.{add_item, header_int, read_items, read_table, read_packed}
use Rattle.replay_text.specs.Numbers.{decimal}
use Rattle.table_text.specs.Reading.{tabled}
use Rattle.table_text.specs.Listing.{item_line, item_lines, heading, table_text, listing_text}

-- the bytes 08 01 00 82 80 08 07 give the lines "items 1 sum 7" and "1 2 1"
pub marked-listing : listing_text (0x08 ∷ 0x01 ∷ 0x00 ∷ 0x82 ∷ 0x80 ∷ 0x08 ∷ 0x07 ∷ []) ≡ 105 ∷ 116 ∷ 101 ∷ 109 ∷ 115 ∷ 32 ∷ 49 ∷ 32 ∷ 115 ∷ 117 ∷ 109 ∷ 32 ∷ 55 ∷ 10 ∷ 49 ∷ 32 ∷ 50 ∷ 32 ∷ 49 ∷ 10 ∷ []
unfolding bits from_bits wrapping_add signed more read_int stream body offsets written num nat edge start key_at values_at ends find insert all_values add_item header_int read_items read_table read_packed decimal item_line item_lines heading table_text tabled listing_text
marked-listing = refl
