-- The example of `ruleprint` in docs/FORMAT.md, proved of the definitions. Assumes nothing.
use Rattle.std.specs.Prelude.{◌≡◌, refl, List, [], ◌∷◌, ℕ, pos}
use Rattle.definitions.specs.Ints.{bits, from_bits, wrapping_add}
use Rattle.definitions.specs.Packed.{signed, more, read_int}
use Rattle.definitions.specs.Stream.{stream}
use Rattle.definitions.specs.Tables.{body, offsets, written, num, nat, edge, start, key_at, values_at, ends, find, insert, all_values}
use Rattle.definitions.specs.TableReading.{add_item, header_int, read_items, read_table, read_packed}
use Rattle.definitions.specs.Rules.{rule_in, rules_of, winner_of}
use Rattle.replay_text.specs.Numbers.{decimal}
use Rattle.table_text.specs.Reading.{tabled}
use Rattle.rule_text.specs.RuleLine.{winner_text, rule_line}

-- two rules of equal priority for ingredient 7: one of type 1 with action 100, one of type 8000 hex with action 200
abbrev bold : List ℕ
bold = 0x20 ∷ 0x02 ∷ 0x00 ∷ 0x10 ∷ 0x81 ∷ 0x80 ∷ 0x08 ∷ 0x07 ∷ 0x05 ∷ 0xa4 ∷ 0x01 ∷ 0xfe ∷ 0xff ∷ 0xff ∷ 0xff ∷ 0x0f ∷ 0x07 ∷ 0x05 ∷ 0x88 ∷ 0x03 ∷ []

-- the greater key wins, so the line is "-2147483647 200"
pub bold-line : rule_line bold (1 ∷ 32768 ∷ []) (pos 7) ≡ 45 ∷ 50 ∷ 49 ∷ 52 ∷ 55 ∷ 52 ∷ 56 ∷ 51 ∷ 54 ∷ 52 ∷ 55 ∷ 32 ∷ 50 ∷ 48 ∷ 48 ∷ 10 ∷ []
unfolding bits from_bits wrapping_add signed more read_int stream body offsets written num nat edge start key_at values_at ends find insert all_values add_item header_int read_items read_table read_packed rule_in rules_of winner_of decimal tabled winner_text rule_line
bold-line = refl
