-- Adding a table to a store: the outcome case by case, and the call. Assumes nothing.
use Rattle.std.specs.Prelude.{◌≡◌, refl, Bool, true, false, ◌&&◌, ◌⊎◌, List, ◌∷◌, ℕ, ◌≤◌, ◌<◌, ltb, leb, ℤ, length}
use Rattle.std.proofs.Math.Logic.{⊎_elim}
use Rattle.std.proofs.Math.Option.{Option, some, none}
use Rattle.std.proofs.Common.{ltb-true, ltb-false, leb-true}
use Rattle.definitions.specs.Refusals.{delta_differing_sizes, capacity_error, store_full, not_in_form}
use Rattle.definitions.specs.Outcome.{Outcome, return, refuse, require, ◌>>◌}
use Rattle.definitions.specs.Tables.{Table, table_of}
use Rattle.definitions.specs.TableCalls.{held}
use Rattle.definitions.specs.Deltas.{written_delta}
use Rattle.definitions.specs.DeltaMaking.{alike, delta_from, create_delta}
use Rattle.definitions.specs.Storage.{StoredSnap, Storage, Store, storage_of, chosen_base, AddedSnap, adding, add_snap}
use Rattle.definitions.specs.StorageCalls.{held_storage, judge_table, laid_out, after_judging, add_snap_step, AddStep, add_step, add_snap_call}
use Rattle.laws.specs.TableShape.{both}
use Rattle.laws.specs.StoreForm.{store_room}

-- the base that a table is measured against
abbrev pub base_of : StoredSnap → Storage → StoredSnap
base_of x s = chosen_base s.delta_tick x s.snaps

-- whether the table and its delta have room
abbrev pub has_room : ℕ → ℕ → StoredSnap → Storage → Bool
has_room n m x s =
    leb (store_room (x ∷ s.snaps)) n
    && leb (length (written_delta (delta_from (base_of x s).snap x.snap))) m

-- the outcome of adding a table, for a store area of n ints and a delta area of m
pub data Adds (n m : ℕ) (x : StoredSnap) (s : Storage) : Outcome AddedSnap → Type 0 where
  full : 100 ≤ length s.snaps → Adds n m x s (refuse store_full)
  clashes : length s.snaps < 100 → alike (base_of x s).snap x.snap ≡ false → Adds n m x s (refuse delta_differing_sizes)
  lacks : length s.snaps < 100 → alike (base_of x s).snap x.snap ≡ true → has_room n m x s ≡ false → Adds n m x s (refuse capacity_error)
  fits : length s.snaps < 100 → alike (base_of x s).snap x.snap ≡ true → length (written_delta (delta_from (base_of x s).snap x.snap)) ≤ m
      → Adds n m x s (return (record { base = (base_of x s).tick; delta = delta_from (base_of x s).snap x.snap }))

-- tables of which one item clashes make no delta
pub made-not : (b t : Table) → alike b t ≡ false → create_delta b t ≡ refuse delta_differing_sizes
unfolding create_delta
made-not b t e = rw e

-- others make theirs
pub made-is : (b t : Table) → alike b t ≡ true → create_delta b t ≡ return (delta_from b t)
unfolding create_delta
made-is b t e = rw e

-- the outcome of the three tests: fewer than 100 tables, no clash, room
tests-are : (n m : ℕ) (x : StoredSnap) (s : Storage) (few same room : Bool) → ltb (length s.snaps) 100 ≡ few
    → alike (base_of x s).snap x.snap ≡ same → has_room n m x s ≡ room
    → Adds n m x s (require few store_full >> (require same delta_differing_sizes >> (require room capacity_error
    >> return (record { base = (base_of x s).tick; delta = delta_from (base_of x s).snap x.snap }))))
tests-are n m x s false same room f a r = full (ltb-false (length s.snaps) 100 f)
tests-are n m x s true false room f a r = clashes (ltb-true (length s.snaps) 100 f) a
tests-are n m x s true true false f a r = lacks (ltb-true (length s.snaps) 100 f) a r
tests-are n m x s true true true f a r =
    fits (ltb-true (length s.snaps) 100 f) a (leb-true _ m (both (leb (store_room (x ∷ s.snaps)) n) _ r).1)

-- adding a table has one of these outcomes
pub adding-is : (n m : ℕ) (x : StoredSnap) (s : Storage) → Adds n m x s (adding n m x s)
unfolding adding create_delta
adding-is n m x s = go (alike (base_of x s).snap x.snap) refl
  where
    go : (p : Bool) → alike (base_of x s).snap x.snap ≡ p → Adds n m x s (adding n m x s)
    go true a = rw a (tests-are n m x s (ltb (length s.snaps) 100) true (has_room n m x s) refl a refl)
    go false a = rw a (tests-are n m x s (ltb (length s.snaps) 100) false (has_room n m x s) refl a refl)

-- ---- the call

-- adding a table to what a store holds, with the areas of the store and of the delta
unfoldable pub adding_to : Storage → StoredSnap → List ℤ → List ℤ → AddStep
adding_to h x area delta =
    add_step (laid_out area (add_snap (length area) (length delta) x h)) (add_snap (length area) (length delta) x h).answer delta

module _ (s : Store) (area : List ℤ) (tick : ℤ) (table delta : List ℤ) where
  -- without a store and a table in form all is left
  pub add-47 : (storage_of s area ≡ none) ⊎ (table_of table ≡ none)
      → add_snap_call s area tick table delta ≡ record { answer = refuse not_in_form; store = s; area = area; delta = delta }
  unfolding held_storage held judge_table add_snap_step after_judging add_step
  add-47 = ⊎_elim (λ (e : storage_of s area ≡ none). rw e) (λ (e : table_of table ≡ none). go e (storage_of s area) refl)
    where
      go : table_of table ≡ none → (o : Option Storage) → storage_of s area ≡ o
          → add_snap_call s area tick table delta ≡ record { answer = refuse not_in_form; store = s; area = area; delta = delta }
      go e none f = rw f
      go e (some h) f = rw (f, e)

  -- with both it adds the table
  pub add-held : (h : Storage) (t : Table) → storage_of s area ≡ some h → table_of table ≡ some t
      → add_snap_call s area tick table delta ≡ adding_to h (record { tick = tick; snap = t }) area delta
  unfolding held_storage held judge_table add_snap_step after_judging adding_to
  add-held h t e f = rw (e, f)
