-- The call that takes a delta: refusals in their order, and the results of its steps. Assumes nothing.
use mathlib.Core.Path.{◌≡◌, refl, sym, ap, ◌∙◌, subst}
use mathlib.Core.Bool.{Bool, true, false, cond}
use mathlib.Core.List.{List, []}
use mathlib.Core.Option.{Option, some, none}
use Prim.Native.Nat.{ℕ, ◌<◌, ◌≤◌}
use native.Mathlib.Omega.{arith}
use borrow.Author.Tests.{le-leb, lt-leb}
use lib.IntN.{ℤ}
use lib.ListN.{length}
use Rattle.definitions.specs.Ints.{signed_less}
use Rattle.definitions.specs.Outcome.{return, refuse, ◌>>◌}
use Rattle.definitions.specs.Refusals.{not_in_form, scratch_too_short, store_old_delta}
use Rattle.definitions.specs.Warnings as Counts
use Rattle.definitions.specs.Tables as Tables
use Rattle.definitions.specs.Deltas.{Delta}
use Rattle.definitions.specs.DeltaCalls.{held_delta}
use Rattle.definitions.specs.Storage as Store
use Rattle.definitions.specs.StorageCalls as Calls
use Rattle.format.specs.Totals.{counts}
use Rattle.format.specs.declared.Error.TheVariants as error
use Rattle.format.specs.declared.Warnings.{Warnings}
use Rattle.laws.specs.StoreRoom.{length-for}
use Rattle.store_area.specs.Held.{snaps_in, Leaves}
use Rattle.store_area.specs.Laid.{leaves-many, leaves-laid}
use Rattle.store_area.specs.Stores.{holds_in, Holds}
use Rattle.typed_applying.specs.Answers.{typed_table}
use Rattle.typed_applying.specs.declared.checked.Typed.{Typed}
use Rattle.storage.specs.States.{store_of, ack_of, delta_of}
use Rattle.storage.specs.Taking.{takings, refusing, base_in, Applies, adding_on}
use Rattle.std.specs.Prelude.{Err}
use Rattle.storage.specs.declared.Storage.{Storage}

-- ---- the base

-- it is searched among the tables that are left
base_same : (tick : ℤ) (l : List Store.StoredSnap) → Store.base_for tick l ≡ base_in tick (Store.drop_for tick l)
base_same tick l = go (Store.is_negative tick)
  where
    go : (b : Bool)
        → cond b (some []) (Store.oldest_at tick (Store.drop_older tick l)) ≡ cond b (some []) (Store.oldest_at tick (cond b l (Store.drop_older tick l)))
    go true = refl
    go false = refl

-- it is not held
unheld : (o : Option Tables.Table) → Store.is_held o ≡ false → o ≡ none
unheld none e = refl
unheld (some t) e = let z : ◌≡◌ {A = ℕ} 0 1 = cc in absurd (omega arith)

-- it is
record Base (o : Option Tables.Table) : Type 0 where
  pub table : Tables.Table
  pub is : o ≡ some table

-- a base that is held is a table
held-base : (o : Option Tables.Table) → Store.is_held o ≡ true → Base o
held-base none e = let z : ◌≡◌ {A = ℕ} 0 1 = cc in absurd (omega arith)
held-base (some t) e = record { table = t; is = refl }

-- what is left is in form
pub left-holds : (s : Storage) (a : List ℤ) (k : ℕ) → Holds (store_of s) a k → (base : ℤ) (n i : ℕ) (out : List ℤ)
    → Leaves a (Store.drop_for base (snaps_in s.count a)) n i out → (t : Storage)
    → store_of t ≡ record { count = n; ack_tick = ack_of s; delta_tick = delta_of s } → Holds (store_of t) out i
left-holds s a k h base n i out f t e =
    let l = snaps_in s.count a in
    let few : n ≤ 100 = omega (arith, length-for base l, h.held.many, h.few, leaves-many f) in
    subst (λ (u : Store.Store). Holds u out i) (sym e) (record { held = f.held; few = few; ints-are = f.ints-are })

module _ (s : Storage) (a : List ℤ) (k : ℕ) (h : Holds (store_of s) a k) (sum : Option ℤ) (base tick : ℤ) (d : Delta) (n i : ℕ) (out : List ℤ)
    (f : Leaves a (Store.drop_for base (snaps_in s.count a)) n i out) where
  -- the tables that are left
  abbrev Left : List Store.StoredSnap
  Left = Store.drop_for base (snaps_in s.count a)

  -- what the call is
  abbrev pub Whole : Calls.StoreStep ℤ
  Whole = Calls.laid_out a (adding_on (length a) sum base tick d (holds_in (store_of s) a))

  -- the base is not held
  pub take-31 : (t : Storage) (w : Warnings) → Store.is_held (base_in base (snaps_in n out)) ≡ false
      → store_of t ≡ record { count = n; ack_tick = none; delta_tick = delta_of s } → counts w ≡ Counts.none
      → Whole ≡ takings (record { answer = Err error.UnknownSnap; warnings = w; storage = t }) out
  unfolding adding_on Store.add_on
  take-31 t w e g c =
      let b : Store.base_for base (snaps_in s.count a) ≡ none =
      base_same base (snaps_in s.count a) ∙ unheld (base_in base Left) (ap (λ (l : List Store.StoredSnap). Store.is_held (base_in base l)) (sym f.snaps-are) ∙ e) in
      rw (b, g, c, leaves-many f, ← leaves-laid f)

  -- what is held then
  same-holds : (t : Storage) → store_of t ≡ record { count = n; ack_tick = ack_of s; delta_tick = delta_of s }
      → holds_in (store_of t) out ≡ Store.with_snaps (holds_in (store_of s) a) Left
  same-holds t e =
      ap (λ (u : Store.Store). holds_in u out) e
      ∙ ap (λ (l : List Store.StoredSnap). record { snaps = l; ack_tick = ack_of s; delta_tick = delta_of s }) f.snaps-are

  -- the delta is applied to it
  pub take-held : (t : Storage) (r : Typed) (front : List ℤ) (z : Calls.StoreStep ℤ)
      → store_of t ≡ record { count = n; ack_tick = ack_of s; delta_tick = delta_of s } → Store.is_held (base_in base (snaps_in n out)) ≡ true
      → Applies (base_in base (snaps_in n out)) d front r
      → Calls.laid_out out (Store.add_table (length out) sum tick (holds_in (store_of t) out) (Store.warn_weird base >> typed_table (Tables.items front) r)) ≡ z
      → Whole ≡ z
  unfolding adding_on Store.add_on
  take-held t r front z e g p q =
      let b = held-base (base_in base (snaps_in n out)) g in
      let c : Store.base_for base (snaps_in s.count a) ≡ some b.table =
      base_same base (snaps_in s.count a) ∙ (ap (base_in base) (sym f.snaps-are) ∙ b.is) in
      rw (c, p.made b.table b.is, ← same-holds t e, ← f.same_length) q

-- ---- the call

module _ (s : Store.Store) (a : List ℤ) (sum : Option ℤ) (base tick : ℤ) (delta : List ℤ) (n : ℕ) where
  -- the call
  abbrev Call : Calls.StoreStep ℤ
  Call = Calls.add_delta_call s a sum base tick delta n

  -- the store is not in form
  pub take-47 : Store.storage_of s a ≡ none → Call ≡ refusing not_in_form s a
  unfolding Calls.held_storage Calls.judge_delta Calls.after_judging
  take-47 e = rw e

  module _ (e : Store.storage_of s a ≡ some (holds_in s a)) where
    -- the delta is not
    pub delta-47 : held_delta delta ≡ refuse not_in_form → Call ≡ refusing not_in_form s a
    unfolding Calls.held_storage Calls.judge_delta Calls.after_judging
    delta-47 f = rw (e, f)

    module _ (d : Delta) (f : held_delta delta ≡ return d) where
      -- scratch is too short
      pub take-41 : n < 16384 → Call ≡ refusing scratch_too_short s a
      unfolding Calls.held_storage Calls.judge_delta Calls.after_judging
      take-41 h = rw (e, f, lt-leb 16384 n h)

      -- all was judged
      pub take_all : 16384 ≤ n → Call ≡ Calls.laid_out a (Store.add_delta (length a) sum base tick d (holds_in s a))
      unfolding Calls.held_storage Calls.judge_delta Calls.after_judging
      take_all r = rw (e, f, le-leb 16384 n r)

-- ---- what was judged

module _ (s : Store.Store) (a : List ℤ) (sum : Option ℤ) (base tick : ℤ) (d : Delta) where
  -- the call then
  abbrev Judged : Calls.StoreStep ℤ
  Judged = Calls.laid_out a (Store.add_delta (length a) sum base tick d (holds_in s a))

  -- the tick is old
  pub take-30 : (k : ℕ) → Holds s a k → signed_less (Store.newest_tick (snaps_in s.count a)) tick ≡ false → Judged ≡ refusing store_old_delta s a
  unfolding Store.add_delta
  take-30 k h g = rw (g, h.held.many, ← h.held.stands.area-is)

  -- it is new
  pub take-new : signed_less (Store.newest_tick (snaps_in s.count a)) tick ≡ true → Judged ≡ Calls.laid_out a (adding_on (length a) sum base tick d (holds_in s a))
  unfolding Store.add_delta adding_on
  take-new g = rw g
