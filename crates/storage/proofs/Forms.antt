-- What is asked of a store in form. Assumes nothing.
use mathlib.Core.Path.{◌≡◌, refl, ap, ◌∙◌}
use mathlib.Core.Bool.{Bool, true, false, cond}
use mathlib.Core.List.{List, [], ◌∷◌}
use mathlib.Core.Option.{some, none}
use Prim.Native.Nat.{ℕ, zero, suc, ◌-◌, ◌<◌, ◌≤◌}
use native.Mathlib.Omega.{arith}
use lib.IntN.{ℤ, pos}
use lib.ListN.{length, replicate}
use Rattle.definitions.specs.Areas.{cleared}
use Rattle.definitions.specs.Refusals.{not_in_form}
use Rattle.definitions.specs.Outcome.{return, refuse}
use Rattle.definitions.specs.Receiver.{same}
use Rattle.definitions.specs.Storage as Store
use Rattle.definitions.specs.StorageCalls as Calls
use Rattle.store_area.specs.Held.{snaps_in, snap_at, no_snap, HeldStore}
use Rattle.store_area.specs.Stores.{holds_in}
use Rattle.ticks.specs.declared.Tick.{Tick}
use Rattle.storage.specs.States.{delta_of}
use Rattle.std.specs.Prelude.{None, Some}
use Rattle.storage.specs.declared.Storage.{Storage}

-- ---- a table of a place

-- there is one
nth-there : (l : List Store.StoredSnap) (i : ℕ) → i < length l → Calls.nth_snap l i ≡ some (snap_at l i)
nth-there [] i h = absurd (omega arith)
nth-there (x ∷ l) zero h = refl
nth-there (x ∷ l) (suc i) h = nth-there l i (omega arith)

-- there are fewer
nth_past : (l : List Store.StoredSnap) (i : ℕ) → length l ≤ i → Calls.nth_snap l i ≡ none
nth_past [] i h = refl
nth_past (x ∷ l) zero h = absurd (omega arith)
nth_past (x ∷ l) (suc i) h = nth_past l i (omega arith)

module _ (s : Store.Store) (a : List ℤ) (i : ℕ) where
  -- its tick, and the table
  pub tick-47 : Store.storage_of s a ≡ none → Calls.tick_call s a i ≡ refuse not_in_form
  unfolding Calls.held_storage
  tick-47 e = rw e

  -- no table
  pub table-47 : Store.storage_of s a ≡ none → [] ≡ Calls.table_call s a i
  unfolding Calls.held_storage
  table-47 e = rw e

  module _ (h : HeldStore a s.count) (e : Store.storage_of s a ≡ some (holds_in s a)) where
    -- the tables
    abbrev L : List Store.StoredSnap
    L = snaps_in s.count a

    -- the tick of one that is there
    pub tick-there : i < s.count → Calls.tick_call s a i ≡ return (some (snap_at L i).tick)
    unfolding Calls.held_storage
    tick-there k = rw (e, nth-there L i (omega (arith, h.many)))

    -- of one that is not
    pub tick-past : s.count ≤ i → Calls.tick_call s a i ≡ return none
    unfolding Calls.held_storage
    tick-past k = rw (e, nth_past L i (omega (arith, h.many)))

    -- the table itself
    pub table-there : i < s.count → Calls.table_in (some (snap_at L i)) ≡ Calls.table_call s a i
    unfolding Calls.held_storage
    table-there k = rw (e, nth-there L i (omega (arith, h.many)))

    -- or none
    pub table-past : s.count ≤ i → [] ≡ Calls.table_call s a i
    unfolding Calls.held_storage
    table-past k = rw (e, nth_past L i (omega (arith, h.many)))

-- ---- the oldest table

-- the oldest is the last
oldest-at : (x : Store.StoredSnap) (l : List Store.StoredSnap) → Store.oldest_or x l ≡ snap_at (x ∷ l) (length l)
unfolding Store.oldest_or
oldest-at x [] = refl
oldest-at x (y ∷ l) = oldest-at y l

-- of some tables
pub oldest-last : (x : Store.StoredSnap) (l : List Store.StoredSnap) (n : ℕ) → length l ≡ n → 0 < n → Store.oldest_or x l ≡ snap_at l (n - 1)
unfolding Store.oldest_or
oldest-last x [] n e h = absurd (omega arith)
oldest-last x (y ∷ l) n e h = let d : n - 1 ≡ length l = omega arith in rw d (oldest-at y l)

-- the same by how many there are
pub oldest-cons : (x : Store.StoredSnap) (l : List Store.StoredSnap) (n : ℕ) → n ≡ length l → Store.oldest_or x l ≡ snap_at (x ∷ l) n
oldest-cons x l n e = rw e (oldest-at x l)

-- there is none
pub no-oldest : (tick : ℤ) (l : List Store.StoredSnap) (n : ℕ) → length l ≡ n → n ≡ 0 → false ≡ Store.is_held (Store.oldest_at tick l)
unfolding Store.oldest_at
no-oldest tick [] n e z = refl
no-oldest tick (x ∷ l) n e z = absurd (omega arith)

-- whether it is of a tick
pub oldest-of : (tick : ℤ) (l : List Store.StoredSnap) (n : ℕ) → length l ≡ n → (n ≡ 0 → ⊥)
    → same (snap_at l (n - 1)).tick tick ≡ Store.is_held (Store.oldest_at tick l)
unfolding Store.oldest_at
oldest-of tick [] n e z = absurd (z (omega arith))
oldest-of tick (x ∷ l) n e z =
    let d : n - 1 ≡ length l = omega arith in
    rw (d, ← oldest-at x l) (by (same (Store.oldest_or x l).tick tick))
  where
    by : (b : Bool) → b ≡ Store.is_held (cond b (some (Store.oldest_or x l).snap) none)
    by true = refl
    by false = refl

-- ---- an area that is emptied

-- zeros are a cleared area
pub cleared-zeros : (a : List ℤ) → replicate (length a) (pos 0) ≡ cleared a
cleared-zeros [] = refl
cleared-zeros (x ∷ a) = ap (λ (l : List ℤ). pos 0 ∷ l) (cleared-zeros a)

-- a store that is emptied
pub reset-is : (s t : Store.Store) (a b : List ℤ) → t ≡ record { count = 0; ack_tick = none; delta_tick = s.delta_tick } → b ≡ cleared a
    → Calls.reset_call s a ≡ record { answer = return tt; store = t; area = b }
reset-is s t a b e f = rw (e, f, cleared-zeros a)

-- ---- the base of the next table

module _ (s : Storage) (x : Store.StoredSnap) (l : List Store.StoredSnap) where
  -- no base tick is set: the empty table
  pub chosen-empty : s.delta_tick ≡ None → Store.chosen_base (delta_of s) x l ≡ no_snap
  chosen-empty e = rw e

  module _ (n : ℕ) {t : Tick} (e : s.delta_tick ≡ Some t) (m : length l ≡ n) where
    -- nothing is held: the table itself
    pub chosen-itself : n ≡ 0 → Store.chosen_base (delta_of s) x l ≡ x
    chosen-itself z = rw e (none-held x l (m ∙ z))
      where
        none-held : (y : Store.StoredSnap) (k : List Store.StoredSnap) → length k ≡ 0 → Store.oldest_or y k ≡ y
        none-held y [] q = unfold Store.oldest_or in refl
        none-held y (w ∷ k) q = absurd (omega arith)

    -- the oldest
    pub chosen-oldest : (n ≡ 0 → ⊥) → Store.chosen_base (delta_of s) x l ≡ snap_at l (n - 1)
    chosen-oldest z = rw e (oldest-last x l n m (above n z))
      where
        above : (k : ℕ) → (k ≡ 0 → ⊥) → 0 < k
        above zero q = absurd (q refl)
        above (suc k) q = omega arith
