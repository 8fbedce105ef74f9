-- The differences between items, and the delta between two tables. Assumes nothing.
use Rattle.std.specs.Prelude.{Bool, true, cond, ◌&&◌, List, [], ◌∷◌, ℕ, eqb, ℤ, length}
use Rattle.std.proofs.Math.Option.{Option, some, none}
use Rattle.definitions.specs.Ints.{wrapping_add, wrapping_sub}
use Rattle.definitions.specs.Refusals.{delta_differing_sizes}
use Rattle.definitions.specs.Outcome.{Outcome, return, require, ◌>>◌}
use Rattle.definitions.specs.Tables.{Item, Table, find, is_some, walk}
use Rattle.definitions.specs.Deltas.{Delta, keys}

-- entry by entry
abbrev pub zip_with : (ℤ → ℤ → ℤ) → List ℤ → List ℤ → List ℤ
zip_with f [] ws = []
zip_with f (v ∷ vs) [] = []
zip_with f (v ∷ vs) (w ∷ ws) = f v w ∷ zip_with f vs ws

-- the base's data, if there is any, is as long
abbrev pub agree : Option (List ℤ) → List ℤ → Bool
agree none v = true
agree (some w) v = eqb (length w) (length v)

-- the differences of the target's data from the base's
abbrev pub differences : Option (List ℤ) → List ℤ → List ℤ
differences none v = v
differences (some w) v = zip_with wrapping_sub v w

-- the base's data with differences added
abbrev pub sums : Option (List ℤ) → List ℤ → List ℤ
sums none v = v
sums (some w) v = zip_with wrapping_add w v

-- an item's differences from the base's, which must be as long
abbrev pub create_item_delta : Option (List ℤ) → List ℤ → Outcome (List ℤ)
create_item_delta from to = require (agree from to) delta_differing_sizes >> return (differences from to)

-- an item from its differences and the base's, which must be as long
abbrev pub apply_item_delta : Option (List ℤ) → List ℤ → Outcome (List ℤ)
apply_item_delta from delta = require (agree from delta) delta_differing_sizes >> return (sums from delta)

-- ---- tables

-- the items of a table whose keys another one lacks
unfoldable pub lacking : Table → Table → Table
lacking t [] = []
lacking t (x ∷ b) = cond (is_some (find x.key t)) (lacking t b) (x ∷ lacking t b)

-- every item of the target as its differences from the base
unfoldable pub changes : Table → Table → List Item
changes b [] = []
changes b (x ∷ t) =
    record { key = x.key; values = differences (find x.key b) x.values } ∷ changes b t

-- the items of the target are as long as those of the base with their keys
unfoldable pub alike : Table → Table → Bool
alike b [] = true
alike b (x ∷ t) = agree (find x.key b) x.values && alike b t

-- the first key, in the order of keys read as unsigned, that both tables have with data of different lengths
unfoldable pub first_clash : Table → Table → Option ℕ
first_clash b [] = none
first_clash b (x ∷ t) = cond (agree (find x.key b) x.values) (first_clash b t) (some x.key)

-- the delta from a base to a target: the keys deleted, and every item of the target
unfoldable pub delta_from : Table → Table → Delta
delta_from b t = record { deleted = keys (walk (lacking t b)); updated = walk (changes b t) }

-- the same, if items with the same key have the same length
unfoldable pub create_delta : Table → Table → Outcome Delta
create_delta b t = require (alike b t) delta_differing_sizes >> return (delta_from b t)
