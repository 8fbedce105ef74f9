-- The data of an item, or why it is not looked for. Assumes nothing.
use Rattle.std.specs.Prelude.{List, ℕ, ℤ}
use Rattle.std.proofs.Math.Option.{Option}
use Rattle.definitions.specs.Outcome.{Outcome, return, ◌>>=◌}
use Rattle.definitions.specs.Tables.{find, walk}
use Rattle.definitions.specs.TableCalls.{held, nth, values_in}

-- of the item with a key
abbrev pub item_in : List ℤ → ℕ → Outcome (Option (List ℤ))
item_in area k = held area >>= λ t. return (find k t)

-- of the i-th item of the signed walk
abbrev pub walk_item_in : List ℤ → ℕ → Outcome (Option (List ℤ))
walk_item_in area i = held area >>= λ t. return (values_in (nth (walk t) i))
