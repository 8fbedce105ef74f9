-- The calls on a store and its area. Assumes nothing.
use Rattle.std.specs.Prelude.{List, [], ◌∷◌, ℕ, zero, suc, leb, ℤ, pos, length, replicate}
use Rattle.std.proofs.Math.Option.{Option, some, none}
use Rattle.definitions.specs.Areas.{lay}
use Rattle.definitions.specs.Refusals.{scratch_too_short}
use Rattle.definitions.specs.Outcome.{Outcome, ok, err, return, require, ◌>>=◌, ◌>>◌}
use Rattle.definitions.specs.Tables.{Table, written, items}
use Rattle.definitions.specs.TableCalls.{or_not_in_form, held}
use Rattle.definitions.specs.Deltas.{Delta, written_delta}
use Rattle.definitions.specs.DeltaCalls.{held_delta, clash_of}
use Rattle.definitions.specs.Storage.{StoredSnap, Storage, Store, beside, store_area, storage_of, Keeps, chosen_base, AddedSnap, add_delta, add_snap, set_delta_tick}

-- what a store and its area hold
unfoldable pub held_storage : Store → List ℤ → Outcome Storage
held_storage s area = or_not_in_form (storage_of s area)

-- what a call answers, and what it leaves of the store and its area
pub record StoreStep (A : Type 0) : Type 0 where
  pub answer : Outcome A
  pub store : Store
  pub area : List ℤ

module _ {A : Type 0} where
  -- the resulting store, laid out in its area
  abbrev pub laid_out : List ℤ → Keeps A → StoreStep A
  laid_out area k =
      record { answer = k.answer; store = beside k.storage; area = store_area (length area) k.storage.snaps }

  -- a call on what was judged; if that was refused, all is left as it was
  unfoldable pub after_judging : {B : Type 0} → Store → List ℤ → Outcome B → (B → Keeps A) → StoreStep A
  after_judging s area (ok x w) f = laid_out area (f x)
  after_judging s area (err n w) f = record { answer = err n w; store = s; area = area }

-- ---- a delta is taken

-- a store and a delta that are in form
pub record Both : Type 0 where
  pub storage : Storage
  pub delta : Delta

unfoldable pub judge_delta : Store → List ℤ → List ℤ → ℕ → Outcome Both
judge_delta s area delta scratch = do
  h ← held_storage s area
  d ← held_delta delta
  require (leb 16384 scratch) scratch_too_short
  return (record { storage = h; delta = d })

abbrev pub add_delta_call : Store → List ℤ → Option ℤ → ℤ → ℤ → List ℤ → ℕ → StoreStep ℤ
add_delta_call s area sum base tick delta scratch =
    after_judging s area (judge_delta s area delta scratch)
    (λ x. add_delta (length area) sum base tick x.delta x.storage)

-- ---- a table is added

-- a store and a table that are in form
pub record WithTable : Type 0 where
  pub storage : Storage
  pub table : Table

unfoldable pub judge_table : Store → List ℤ → List ℤ → Outcome WithTable
judge_table s area table = do
  h ← held_storage s area
  t ← held table
  return (record { storage = h; table = t })

unfoldable pub add_snap_step : Store → List ℤ → ℤ → List ℤ → ℕ → StoreStep AddedSnap
add_snap_step s area tick table room =
    after_judging s area (judge_table s area table)
    (λ x. add_snap (length area) room (record { tick = tick; snap = x.table }) x.storage)

-- a table that was added: the tick of its base, and how many ints its delta takes
pub record Added : Type 0 where
  pub base : ℤ
  pub ints : ℕ

-- what the call answers, and what it leaves of the store and both areas
pub record AddStep : Type 0 where
  pub answer : Outcome Added
  pub store : Store
  pub area : List ℤ
  pub delta : List ℤ

unfoldable pub add_step : StoreStep AddedSnap → Outcome AddedSnap → List ℤ → AddStep
add_step k (ok a w) delta =
    record {
      answer = ok (record { base = a.base; ints = length (written_delta a.delta) }) w;
      store = k.store;
      area = k.area;
      delta = lay (written_delta a.delta) delta;
    }
add_step k (err n w) delta = record { answer = err n w; store = k.store; area = k.area; delta = delta }

abbrev pub add_snap_call : Store → List ℤ → ℤ → List ℤ → List ℤ → AddStep
add_snap_call s area tick table delta =
    add_step (add_snap_step s area tick table (length delta)) (add_snap_step s area tick table (length delta)).answer delta

-- the key beside an answer for a table at a tick, from what the store holds
module _ {A : Type 0} where
  abbrev pub clash_with : Outcome A → StoredSnap → Option Storage → Option ℤ
  clash_with o x (some h) = clash_of o (chosen_base h.delta_tick x h.snaps).snap x.snap
  clash_with o x none = none

-- the key beside the answer: the first that clashes with the base
abbrev pub add_snap_clash : Store → List ℤ → ℤ → List ℤ → List ℤ → Option ℤ
add_snap_clash s area tick table delta =
    clash_with (add_snap_call s area tick table delta).answer (record { tick = tick; snap = items table }) (storage_of s area)

-- ---- the others

abbrev pub set_delta_tick_call : Store → List ℤ → ℤ → StoreStep (Unit {0})
set_delta_tick_call s area tick = after_judging s area (held_storage s area) (set_delta_tick tick)

-- an area is emptied whatever it held
abbrev pub reset_call : Store → List ℤ → StoreStep (Unit {0})
reset_call s area =
    record {
      answer = return tt;
      store = record { count = 0; ack_tick = none; delta_tick = s.delta_tick };
      area = replicate (length area) (pos 0);
    }

-- the table at a place from the newest side
abbrev pub nth_snap : List StoredSnap → ℕ → Option StoredSnap
nth_snap [] i = none
nth_snap (x ∷ l) zero = some x
nth_snap (x ∷ l) (suc i) = nth_snap l i

abbrev pub tick_in : Option StoredSnap → Option ℤ
tick_in (some x) = some x.tick
tick_in none = none

abbrev pub table_in : Option StoredSnap → List ℤ
table_in (some x) = written x.snap
table_in none = []

abbrev pub table_of_held : ℕ → Outcome Storage → List ℤ
table_of_held i (ok h w) = table_in (nth_snap h.snaps i)
table_of_held i (err n w) = []

-- the tick and the table at a place from the newest side
abbrev pub tick_call : Store → List ℤ → ℕ → Outcome (Option ℤ)
tick_call s area i = held_storage s area >>= λ h. return (tick_in (nth_snap h.snaps i))

abbrev pub table_call : Store → List ℤ → ℕ → List ℤ
table_call s area i = table_of_held i (held_storage s area)
