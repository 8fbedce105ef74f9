-- A delta applied to its base. Assumes nothing.
use Rattle.std.specs.Prelude.{cond, not, List, [], ◌∷◌, ℕ, ◌+◌, ltb, leb, eqb, ℤ, length}
use Rattle.definitions.specs.Refusals.{too_long_snap, too_many_items, scratch_too_short}
use Rattle.definitions.specs.Warnings.{UnknownDelete}
use Rattle.definitions.specs.Outcome.{Outcome, return, require, warn_if, ◌>>=◌, ◌>>◌, Wrote}
use Rattle.definitions.specs.Tables.{Item, Table, written, find, is_some, insert}
use Rattle.definitions.specs.TableCalls.{held, stored_table}
use Rattle.definitions.specs.Deltas.{Delta}
use Rattle.definitions.specs.DeltaMaking.{apply_item_delta}
use Rattle.definitions.specs.DeltaReading.{elem}
use Rattle.definitions.specs.DeltaCalls.{held_delta}

-- the items of a table whose keys are not deleted
unfoldable pub kept : List ℕ → Table → Table
kept deleted [] = []
kept deleted (x ∷ t) = cond (elem x.key deleted) (kept deleted t) (x ∷ kept deleted t)

-- the item that an update makes: its differences added to the base's data, which must be as long
unfoldable pub updated_item : Table → Item → Outcome Item
updated_item b u = do
  values ← apply_item_delta (find u.key b) u.values
  return (record { key = u.key; values = values })

-- a table with an item in the place of the one with its key
unfoldable pub replace : Item → Table → Table
replace i [] = []
replace i (x ∷ t) = cond (eqb x.key i.key) (i ∷ t) (x ∷ replace i t)

-- an update of a key that the table has
unfoldable pub change_item : Table → Item → Table → Outcome Table
change_item b u t = do
  i ← updated_item b u
  return (replace i t)

-- an update of another key: the item must not be one too many, nor too long; it still adds to the base's data
unfoldable pub new_item : Table → Item → Table → Outcome Table
new_item b u t = do
  require (ltb (length t) 1024) too_many_items
  require (leb (length (written (insert u t))) 16384) too_long_snap
  i ← updated_item b u
  return (insert i t)

abbrev pub apply_update : Table → Item → Table → Outcome Table
apply_update b u t = cond (is_some (find u.key t)) (change_item b u t) (new_item b u t)

-- updates, one after the other
unfoldable pub apply_updates : Table → List Item → Table → Outcome Table
apply_updates b [] t = return t
apply_updates b (u ∷ us) t = apply_update b u t >>= apply_updates b us

-- the kept items of the base, then the updates; a deleted key that the base lacks counts a warning
unfoldable pub apply_delta : Table → Delta → Outcome Table
apply_delta b d = do
  warn_if (not (eqb (length (kept d.deleted b) + length d.deleted) (length b))) UnknownDelete
  apply_updates b d.updated (kept d.deleted b)

-- ---- the call

-- the base and the delta of two areas; the length of scratch is judged after their forms
unfoldable pub applying : List ℤ → List ℤ → ℕ → Outcome Table
applying base delta scratch = do
  b ← held base
  d ← held_delta delta
  require (leb 16384 scratch) scratch_too_short
  apply_delta b d

abbrev pub raw_read_with_delta_call : List ℤ → List ℤ → List ℤ → ℕ → Wrote ℕ ℤ
raw_read_with_delta_call base delta out scratch = stored_table out (applying base delta scratch)
