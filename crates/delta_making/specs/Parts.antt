-- The parts of a delta, in the order of writing. Assumes nothing.
use Rattle.std.specs.Prelude.{ℕ, ◌-◌, cond, List, [], map, ltb, ℤ, take, drop}
use Rattle.std.proofs.Math.Option.{Option, some, none}
use Rattle.definitions.specs.Ints.{from_bits}
use Rattle.definitions.specs.Tables.{Item, Table, find, key_at}
use Rattle.definitions.specs.Deltas.{keys, update_ints, updates_ints}
use Rattle.definitions.specs.DeltaMaking.{differences, lacking, changes}

-- the items of a table from one place to another
unfoldable pub part : ℕ → ℕ → Table → Table
part from to t = take (to - from) (drop from t)

-- the keys of some items that a target lacks
unfoldable pub deleted_ints : Table → Table → List ℤ
deleted_ints t b = map from_bits (keys (lacking t b))

-- an item of the target with its differences from the base as data
abbrev pub changed : Table → Item → Item
changed b x = record { key = x.key; values = differences (find x.key b) x.values }

-- the ints of one update, and of several
abbrev pub change_ints : Table → Item → List ℤ
change_ints b x = update_ints [] (changed b x)

unfoldable pub changes_ints : Table → Table → List ℤ
changes_ints b t = updates_ints [] (changes b t)

-- the key of item r, if r is below n
abbrev pub key_below : List ℤ → ℕ → ℕ → Option ℕ
key_below t n r = cond (ltb r n) (some (key_at t r)) none
