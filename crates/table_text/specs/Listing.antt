-- The text that `tablelist` writes, as docs/FORMAT.md describes it. Assumes nothing.
use Rattle.std.specs.Prelude.{List, [], ◌∷◌, ◌++◌, ℕ, ◌/◌, ◌%◌, ℤ, length}
use Rattle.definitions.specs.Outcome.{Outcome, ok, err}
use Rattle.definitions.specs.Tables.{Item, Table, crc}
use Rattle.replay_text.specs.Numbers.{decimal, signed}
use Rattle.replay_text.specs.Answers.{next, refused}
use Rattle.table_text.specs.Reading.{tabled}

-- a text, ended by a newline
abbrev pub ended : List ℕ → List ℕ
ended text = text ++ 10 ∷ []

-- type, id and int count of an item, separated by spaces
abbrev pub line : ℕ → ℕ → ℕ → List ℕ
line type id count = ended (decimal type ++ next id ++ next count)

-- the line of an item: the upper 16 bits of its key are the type, the lower 16 the id
unfoldable pub item_line : Item → List ℕ
item_line x = line (x.key / 65536) (x.key % 65536) (length x.values)

-- the lines of a table: one for each item, in unsigned key order
unfoldable pub item_lines : Table → List ℕ
item_lines [] = []
item_lines (x ∷ t) = item_line x ++ item_lines t

-- the words "items" and "sum", each followed by its number
unfoldable pub heading : ℕ → ℤ → List ℕ
heading n sum = ended (105 ∷ 116 ∷ 101 ∷ 109 ∷ 115 ∷ next n ++ 32 ∷ 115 ∷ 117 ∷ 109 ∷ 32 ∷ signed sum)

-- the text of a table: how many items and the sum of their ints, then the items
unfoldable pub table_text : Table → List ℕ
table_text t = heading (length t) (crc t) ++ item_lines t

-- the text of the result of reading: the table's, or the refusal and its number
abbrev pub answer_text : Outcome Table → List ℕ
answer_text (ok t w) = table_text t
answer_text (err n w) = ended (refused n)

-- the text of at most 8,192 packed bytes; more are refused with 42
unfoldable pub listing_text : List ℕ → List ℕ
listing_text bytes = answer_text (tabled bytes)
