-- The call that adds a table: refusals before anything is made, and the results of its steps. Assumes nothing.
use mathlib.Core.Path.{◌≡◌, refl, sym, ap, ◌∙◌}
use mathlib.Core.Bool.{Bool}
use mathlib.Core.List.{List, ◌∷◌}
use mathlib.Core.Option.{Option, some, none}
use Prim.Native.Nat.{ℕ, ◌+◌, ◌<◌}
use native.Mathlib.Omega.{arith}
use borrow.Author.Tests.{le-ltb, ne_eqb}
use lib.Dec.{leb}
use lib.IntN.{ℤ}
use lib.ListN.{length}
use Rattle.definitions.specs.Refusals.{store_full, delta_differing_sizes}
use Rattle.definitions.specs.Outcome.{refuse}
use Rattle.definitions.specs.Tables.{Table, written, items}
use Rattle.definitions.specs.DeltaCalls.{clash_of}
use Rattle.definitions.specs.Storage as Store
use Rattle.definitions.specs.StorageCalls as Calls
use Rattle.laws.specs.StoreForm.{store_room, room_cons, LaidIn}
use Rattle.store_area.specs.Held.{snaps_in}
use Rattle.store_area.specs.Stores.{holds_in, Holds, beside-is}
use Rattle.laws.specs.CreateLaws.{created_ints}
use Rattle.laws.specs.AddingLaws.{adding_to}
use Rattle.delta_making.specs.Answers.{made_ints, made_clash}
use Rattle.delta_making.specs.declared.MakeError.{MakeError}
use Rattle.delta_making.specs.declared.MakeError.TheVariants.{DifferingSizes, Refused}
use Rattle.ticks.specs.declared.Tick.{Tick}
use Rattle.storage.specs.States.{store_of}
use Rattle.storage.specs.Answers.{addings, added_in, added_clash}
use Rattle.format.specs.Numbers.{number}
use Rattle.format.specs.declared.Error.{Error}
use Rattle.storage.specs.declared.Added.{Added}
use Rattle.storage.specs.declared.Adding.{Adding}
use Rattle.storage.specs.Steps.{making, added_of, store_after, tables_after}
use Rattle.std.specs.Prelude.{Err, Ok, Result}
use Rattle.storage.proofs.Additions.{added-by}

-- ---- the call

module _ (s : Store.Store) (a : List ℤ) (tick : ℤ) (table delta : List ℤ) where
  -- a call that is refused
  abbrev RefusedAs : ℕ → Type 0
  RefusedAs n = Calls.add_snap_call s a tick table delta ≡ record { answer = refuse n; store = s; area = a; delta = delta }

-- the store is full
pub full-44 : (s : Store.Store) (a : List ℤ) (k : ℕ) → Holds s a k → s.count ≡ 100 → (x : Store.StoredSnap) (delta : List ℤ)
    → adding_to (holds_in s a) x a delta ≡ record { answer = refuse store_full; store = s; area = a; delta = delta }
unfolding adding_to Store.add_snap Store.adding Calls.add_step
full-44 s a k h c x delta =
    rw (le-ltb (length (snaps_in s.count a)) 100 (omega (arith, h.held.many)), h.held.many, ← h.held.stands.area-is)

-- ---- its steps

-- whether the store has room for a table
pub room-is : (x : Store.StoredSnap) (l : List Store.StoredSnap) (n k m : ℕ) → k ≡ store_room l → m ≡ length (written x.snap)
    → leb (k + (m + 2)) n ≡ leb (store_room (x ∷ l)) n
room-is x l n k m e f =
    let d : store_room (x ∷ l) ≡ k + (m + 2) = omega (arith, room_cons x l) in
    ap (λ (i : ℕ). leb i n) (sym d)

-- ---- the key beside the answer

-- it is that of the delta
pub made-key : (base : Tick) (m : Result ℕ MakeError) (b t : Table) → made_clash m ≡ clash_of (made_ints m) b t
    → added_clash (added_of base m) ≡ clash_of (added_in (added_of base m)) b t
made-key base (Ok n) b t c = refl
made-key base (Err (DifferingSizes k)) b t c = c
made-key base (Err (Refused e)) b t c = c

-- no key comes with another number than 10
no_key : (n : ℕ) → (n ≡ delta_differing_sizes → ⊥) → (x : Store.StoredSnap) (o : Option Store.Storage) → none ≡ Calls.clash_with {A = Calls.Added} (refuse n) x o
no_key n d x none = refl
no_key n d x (some h) = rw (ne_eqb n delta_differing_sizes d)

-- the key beside the call's answer
pub with-key : (s : Store.Store) (a : List ℤ) (tick : ℤ) (table delta : List ℤ) (r : Adding) {area out : List ℤ}
    → Calls.add_snap_call s a tick table delta ≡ addings r area out
    → added_clash r.answer ≡ Calls.clash_with (added_in r.answer) (record { tick = tick; snap = items table }) (Store.storage_of s a)
    → (Calls.add_snap_call s a tick table delta ≡ addings r area out) × (added_clash r.answer ≡ Calls.add_snap_clash s a tick table delta)
with-key s a tick table delta r e c =
    (e, c ∙ sym (ap (λ (k : Calls.AddStep). Calls.clash_with k.answer (record { tick = tick; snap = items table }) (Store.storage_of s a)) e))

-- ---- the steps of adding

module _ (s : Store.Store) (a : List ℤ) (l : List Store.StoredSnap) (tick : ℤ) (base : Tick) where
  -- what is promised of a call that ends
  abbrev pub Ends : List ℤ → List ℤ → Result Added MakeError → Store.Store → Result ℕ MakeError → Type 0
  Ends table out r t m = (r ≡ added_of base m) × (t ≡ store_after s m) × ((u : Table) → table ≡ written u → LaidIn (length a) (tables_after l (record { tick = tick; snap = u }) m) out)

  -- the delta was made
  pub made-leaves : (n : ℕ) (table out : List ℤ) (r : Adding) (m : Result ℕ MakeError) → m ≡ Ok n → r.answer ≡ added_of base m
      → store_of r.storage ≡ record { count = s.count + 1; ack_tick = s.ack_tick; delta_tick = s.delta_tick }
      → ((u : Table) → table ≡ written u → LaidIn (length a) (record { tick = tick; snap = u } ∷ l) out)
      → Ends table out r.answer (store_of r.storage) m
  made-leaves n table out r m e f g h = (f, g ∙ rw e, λ u w. rw e (h u w))

  module _ (laid : LaidIn (length a) l a) (r : Result Added MakeError) (table : List ℤ) (m : Result ℕ MakeError) where
    -- it was not made
    pub none-leaves : (k : MakeError) → m ≡ Err k → r ≡ added_of base m → Ends table a r s m
    none-leaves k e f = (f, rw e, λ u w. rw e laid)

module _ (s : Store.Store) (a delta : List ℤ) (k : ℕ) (h : Holds s a k) (x : Store.StoredSnap) (room : Bool) (m : Result ℕ MakeError) (out : List ℤ) where
  -- the tables held
  abbrev L : List Store.StoredSnap
  L = snaps_in s.count a

  -- the base
  abbrev B : Store.StoredSnap
  B = Store.chosen_base s.delta_tick x L

  -- a table that is added, in all its steps
  pub adding-ends : s.count < 100 → room ≡ leb (store_room (x ∷ L)) (length a)
      → making room delta (created_ints B.snap x.snap) ≡ record { answer = made_ints m; out = out } → (r : Adding) (area : List ℤ)
      (base : Tick) → base.0 ≡ B.tick → r.answer ≡ added_of base m → store_of r.storage ≡ store_after s m → LaidIn (length a) (tables_after L x m) area
      → adding_to (holds_in s a) x a delta ≡ addings r area out
  adding-ends c i e r area base at f g laid =
      added-by (holds_in s a) x a delta (omega (arith, h.held.many)) room i m out e area laid base at
      ∙ rw (beside-is s a k h, f, g)

-- a call that adds nothing
pub not-added-by : (s : Store.Store) (a : List ℤ) (tick : ℤ) (table delta : List ℤ) (r : Adding) (e : Error) → r.answer ≡ Err (Refused e)
    → store_of r.storage ≡ s → (number e ≡ delta_differing_sizes → ⊥) → RefusedAs s a tick table delta (number e)
    → (Calls.add_snap_call s a tick table delta ≡ addings r a delta) × (added_clash r.answer ≡ Calls.add_snap_clash s a tick table delta)
not-added-by s a tick table delta r e f g n q =
    with-key s a tick table delta r (q ∙ rw (f, g)) (rw f (no_key (number e) n (record { tick = tick; snap = items table }) (Store.storage_of s a)))
