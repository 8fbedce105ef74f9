-- The store of tables by tick, what its area holds, and its calls. Assumes nothing.
use Rattle.std.specs.Prelude.{Bool, true, false, cond, not, ◌&&◌, List, [], ◌∷◌, ◌++◌, ℕ, zero, suc, ◌-◌, eqb, ltb, leb, ℤ, pos, negsuc, length, take, drop, replicate}
use Rattle.std.proofs.Math.Option.{Option, some, none}
use Rattle.definitions.specs.Ints.{signed_less}
use Rattle.definitions.specs.Refusals.{store_old_delta, unknown_snap, invalid_crc, capacity_error, store_full}
use Rattle.definitions.specs.Warnings.{WeirdNegativeDeltaTick}
use Rattle.definitions.specs.Outcome.{Outcome, ok, err, return, refuse, require, warn_if, ◌>>=◌, ◌>>◌}
use Rattle.definitions.specs.Tables.{Table, num, written, table_of, crc}
use Rattle.definitions.specs.Deltas.{Delta, written_delta}
use Rattle.definitions.specs.DeltaMaking.{create_delta}
use Rattle.definitions.specs.Applying.{apply_delta}
use Rattle.definitions.specs.Types.{typed}
use Rattle.definitions.specs.Receiver.{same}

-- a table and its tick
pub record StoredSnap : Type 0 where
  pub tick : ℤ
  pub snap : Table

-- the tables held, the newest first; the tick acknowledged last; the tick of the base that is set
pub record Storage : Type 0 where
  pub snaps : List StoredSnap
  pub ack_tick : Option ℤ
  pub delta_tick : Option ℤ

abbrev pub fresh_storage : Storage
fresh_storage = record { snaps = []; ack_tick = none; delta_tick = none }

-- ---- the area

-- each table's tick, int count and written form
unfoldable pub store_ints : List StoredSnap → List ℤ
store_ints [] = []
store_ints (x ∷ l) = x.tick ∷ pos (length (written x.snap)) ∷ written x.snap ++ store_ints l

-- an area of n ints with these tables, followed by zeros
abbrev pub store_area : ℕ → List StoredSnap → List ℤ
store_area n l = store_ints l ++ replicate (n - length (store_ints l)) (pos 0)

-- what goes with a store area: how many tables it holds, and two ticks
pub record Store : Type 0 where
  pub count : ℕ
  pub ack_tick : Option ℤ
  pub delta_tick : Option ℤ

abbrev pub beside : Storage → Store
beside s = record { count = length s.snaps; ack_tick = s.ack_tick; delta_tick = s.delta_tick }

-- whether all ints are 0
unfoldable pub all_zero : List ℤ → Bool
all_zero [] = true
all_zero (x ∷ l) = eqb (num x) 0 && all_zero l

-- a table that takes exactly n ints
abbrev pub exactly : ℕ → Option Table → Option Table
exactly n (some t) = cond (eqb (length (written t)) n) (some t) none
exactly n none = none

-- a table with its tick before others, if all are there
abbrev pub cons_snap : ℤ → Option Table → Option (List StoredSnap) → Option (List StoredSnap)
cons_snap tick (some t) (some l) = some (record { tick = tick; snap = t } ∷ l)
cons_snap tick (some t) none = none
cons_snap tick none l = none

-- the tables of some ints: n of them, and then zeros
unfoldable pub snaps_of : ℕ → List ℤ → Option (List StoredSnap)
snaps_of zero a = cond (all_zero a) (some []) none
snaps_of (suc n) [] = none
snaps_of (suc n) (tick ∷ []) = none
snaps_of (suc n) (tick ∷ size ∷ a) =
    cons_snap tick (exactly (num size) (table_of (take (num size) a))) (snaps_of n (drop (num size) a))

-- what a store and its area hold: at most 100 tables
abbrev pub storage_with : Store → Option (List StoredSnap) → Option Storage
storage_with s (some l) = some (record { snaps = l; ack_tick = s.ack_tick; delta_tick = s.delta_tick })
storage_with s none = none

unfoldable pub storage_of : Store → List ℤ → Option Storage
storage_of s area = cond (leb s.count 100) (storage_with s (snaps_of s.count area)) none

-- ---- tables by tick

-- the newest tick, or -1
abbrev pub newest_tick : List StoredSnap → ℤ
newest_tick [] = negsuc 0
newest_tick (x ∷ l) = x.tick

-- drops the first table older than a tick, from the newest side, and all after it
unfoldable pub drop_older : ℤ → List StoredSnap → List StoredSnap
drop_older tick [] = []
drop_older tick (x ∷ l) = cond (signed_less x.tick tick) [] (x ∷ drop_older tick l)

-- the oldest of some tables, or the given one if there are none
unfoldable pub oldest_or : StoredSnap → List StoredSnap → StoredSnap
oldest_or x [] = x
oldest_or x (y ∷ l) = oldest_or y l

-- the oldest table, if it has the given tick
unfoldable pub oldest_at : ℤ → List StoredSnap → Option Table
oldest_at tick [] = none
oldest_at tick (x ∷ l) =
    cond (same (oldest_or x l).tick tick) (some (oldest_or x l).snap) none

-- a negative tick names the empty table
abbrev pub is_negative : ℤ → Bool
is_negative tick = signed_less tick (pos 0)

-- a negative tick other than -1 counts a warning
abbrev pub warn_weird : ℤ → Outcome (Unit {0})
warn_weird tick = warn_if (is_negative tick && not (same tick (negsuc 0))) WeirdNegativeDeltaTick

-- what is held when a base is named: tables older than it are dropped
abbrev pub drop_for : ℤ → List StoredSnap → List StoredSnap
drop_for tick l = cond (is_negative tick) l (drop_older tick l)

-- the table of a base: it must then be the oldest
abbrev pub base_for : ℤ → List StoredSnap → Option Table
base_for tick l = cond (is_negative tick) (some []) (oldest_at tick (drop_older tick l))

-- ---- a delta is taken

-- what a call answers, and the store that it leaves
pub record Keeps (A : Type 0) : Type 0 where
  pub answer : Outcome A
  pub storage : Storage

abbrev pub with_snaps : Storage → List StoredSnap → Storage
with_snaps s l = record { snaps = l; ack_tick = s.ack_tick; delta_tick = s.delta_tick }

abbrev pub with_ack : Storage → Option ℤ → Storage
with_ack s tick = record { snaps = s.snaps; ack_tick = tick; delta_tick = s.delta_tick }

abbrev pub with_delta_tick : Storage → Option ℤ → Storage
with_delta_tick s tick = record { snaps = s.snaps; ack_tick = s.ack_tick; delta_tick = tick }

-- whether a table has the sum that was sent, if any was
abbrev pub sum_fits : Option ℤ → Table → Bool
sum_fits none t = true
sum_fits (some sum) t = same sum (crc t)

-- one more table, the newest; the 101st pushes out the oldest
abbrev pub push_snap : ℤ → Table → List StoredSnap → List StoredSnap
push_snap tick t l = take 100 (record { tick = tick; snap = t } ∷ l)

-- a table that a delta made is held and acknowledged, if its sum is right and an area of n ints has room
unfoldable pub add_table : ℕ → Option ℤ → ℤ → Storage → Outcome Table → Keeps ℤ
add_table n sum tick s (err e w) = record { answer = err e w; storage = s }
add_table n sum tick s (ok t w) =
    cond (sum_fits sum t)
    (cond (leb (length (store_ints (push_snap tick t s.snaps))) n)
    (record { answer = ok tick w; storage = with_ack (with_snaps s (push_snap tick t s.snaps)) (some tick) })
    (record { answer = err capacity_error w; storage = s }))
    (record { answer = err invalid_crc w; storage = with_ack s none })

-- a delta on its base; without one no tick is acknowledged
unfoldable pub add_on : ℕ → Option ℤ → ℤ → ℤ → Delta → Storage → Option Table → Keeps ℤ
add_on n sum base tick d s none = record { answer = refuse unknown_snap; storage = with_ack s none }
add_on n sum base tick d s (some b) = add_table n sum tick s (warn_weird base >> (apply_delta b d >>= typed))

-- a delta for a tick, which must be newer than all that is held
unfoldable pub add_delta : ℕ → Option ℤ → ℤ → ℤ → Delta → Storage → Keeps ℤ
add_delta n sum base tick d s =
    cond (signed_less (newest_tick s.snaps) tick)
    (add_on n sum base tick d (with_snaps s (drop_for base s.snaps)) (base_for base s.snaps))
    (record { answer = refuse store_old_delta; storage = s })

-- ---- a table is added

-- the base of the next table: if a base tick is set, the oldest table then held, that one included; else the empty table, with tick -1
abbrev pub chosen_base : Option ℤ → StoredSnap → List StoredSnap → StoredSnap
chosen_base none x l = record { tick = negsuc 0; snap = [] }
chosen_base (some tick) x l = oldest_or x l

-- a table that was added: the tick of its base, and its delta
pub record AddedSnap : Type 0 where
  pub base : ℤ
  pub delta : Delta

-- a table at a tick, for a store area of n ints and a delta area of m
unfoldable pub adding : ℕ → ℕ → StoredSnap → Storage → Outcome AddedSnap
adding n m x s = do
  require (ltb (length s.snaps) 100) store_full
  d ← create_delta (chosen_base s.delta_tick x s.snaps).snap x.snap
  require (leb (length (store_ints (x ∷ s.snaps))) n && leb (length (written_delta d)) m) capacity_error
  return (record { base = (chosen_base s.delta_tick x s.snaps).tick; delta = d })

abbrev pub added_to : StoredSnap → Storage → Outcome AddedSnap → Keeps AddedSnap
added_to x s (ok a w) = record { answer = ok a w; storage = with_snaps s (x ∷ s.snaps) }
added_to x s (err e w) = record { answer = err e w; storage = s }

unfoldable pub add_snap : ℕ → ℕ → StoredSnap → Storage → Keeps AddedSnap
add_snap n m x s = added_to x s (adding n m x s)

-- ---- the base tick is set

-- whether there is a table
abbrev pub is_held : Option Table → Bool
is_held (some t) = true
is_held none = false

-- a base must be held; else none is set. A negative tick sets none
unfoldable pub set_delta_tick : ℤ → Storage → Keeps (Unit {0})
set_delta_tick tick s =
    cond (is_negative tick)
    (record { answer = warn_weird tick; storage = with_delta_tick s none })
    (cond (is_held (base_for tick s.snaps))
    (record { answer = return tt; storage = with_delta_tick (with_snaps s (drop_for tick s.snaps)) (some tick) })
    (record { answer = refuse unknown_snap; storage = with_delta_tick (with_snaps s (drop_for tick s.snaps)) none }))
