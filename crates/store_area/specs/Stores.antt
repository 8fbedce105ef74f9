-- A store beside its area: the check of its form, what the check says, and what the store then holds. Assumes nothing.
use Rattle.std.proofs.Math.Path.{◌≡◌, sym, ap}
use Rattle.std.specs.Prelude.{refl, Bool, false, List, ℕ, ◌<◌, ◌≤◌, ℤ, Some, None}
use Rattle.std.proofs.Common.{◌∙◌, arith}
use Rattle.std.proofs.Math.Bool.{true}
use Rattle.std.proofs.Math.Option.{Option, some, none}
use borrow.Author.Tests.{le-leb, lt-leb, leb-true}
use Rattle.std.proofs.Math.Dec.{leb}
use Rattle.definitions.specs.Storage as Store
use Rattle.laws.specs.StoreForm.{store_room}
use Rattle.store_area.specs.Held.{form_of, snaps_in, HeldStore}
use Rattle.store_area.specs.Laid.{stands-found}
use Rattle.store_area.specs.Tested.{tested}
use Rattle.std.specs.Prelude as Prelude

-- the answer of a store's form check
abbrev pub storage_form : Option Store.Storage → Prelude.Option ℕ
storage_form (some h) = Some (store_room h.snaps)
storage_form none = None

-- what a store holds whose form was checked
abbrev pub holds_in : Store.Store → List ℤ → Store.Storage
holds_in s a = record { snaps = snaps_in s.count a; ack_tick = s.ack_tick; delta_tick = s.delta_tick }

-- a store and its area are in form, and the tables take k ints
pub record Holds (s : Store.Store) (a : List ℤ) (k : ℕ) : Type 0 where
  pub held : HeldStore a s.count
  pub few : s.count ≤ 100
  pub ints-are : k ≡ store_room (snaps_in s.count a)

-- ---- the check

module _ (s : Store.Store) (a : List ℤ) where
  -- too many tables
  pub too_many : 100 < s.count → None ≡ storage_form (Store.storage_of s a)
  unfolding Store.storage_of
  too_many h = rw (lt-leb s.count 100 h)

  -- tables that are found, with the ticks beside them
  with-form : (o : Option (List Store.StoredSnap)) → form_of o ≡ storage_form (Store.storage_with s o)
  with-form none = refl
  with-form (some l) = refl

  -- few enough: decided by the area
  pub by-area : (r : Prelude.Option ℕ) → s.count ≤ 100 → r ≡ form_of (Store.snaps_of s.count a) → r ≡ storage_form (Store.storage_of s a)
  unfolding Store.storage_of
  by-area r h e = e ∙ rw (le-leb s.count 100 h) (with-form (Store.snaps_of s.count a))

  -- ---- what it says

  -- the store is not in form
  pub not-held : None ≡ storage_form (Store.storage_of s a) → Store.storage_of s a ≡ none
  not-held e = go (Store.storage_of s a) refl e
    where
      go : (o : Option Store.Storage) → Store.storage_of s a ≡ o → None ≡ storage_form o → Store.storage_of s a ≡ none
      go none q e = q
      go (some h) q e = let z : ◌≡◌ {A = ℕ} 0 1 = cc in absurd (omega arith)

  -- what is known of a store in form
  pub record Told (k : ℕ) : Type 0 where
    pub holds : Holds s a k
    pub is : Store.storage_of s a ≡ some (holds_in s a)

  -- with at most 100 tables
  few-told : (k : ℕ) → s.count ≤ 100 → Some k ≡ storage_form (Store.storage_of s a) → Told k
  unfolding Store.storage_of
  few-told k h e =
      let t : leb s.count 100 ≡ true = le-leb s.count 100 h in
      let f = tested s.count a k ((rw t at e) ∙ sym (with-form (Store.snaps_of s.count a))) in
      record {
        holds = record { held = f.held; few = h; ints-are = f.ints-are };
        is = rw (t, f.snaps-are);
      }

  -- the store is in form
  pub told : (k : ℕ) → Some k ≡ storage_form (Store.storage_of s a) → Told k
  told k e = go (leb s.count 100) refl
    where
      go : (b : Bool) → leb s.count 100 ≡ b → Told k
      go true q = few-told k (leb-true s.count 100 q) e
      go false q =
          let r : Store.storage_of s a ≡ none = unfold Store.storage_of in rw q in
          let d : Some k ≡ None = rw r at e in
          let z : ◌≡◌ {A = ℕ} 0 1 = cc in absurd (omega arith)

-- ---- a store in form

module _ (s : Store.Store) (a : List ℤ) (k : ℕ) (h : Holds s a k) where
  -- what it holds
  pub holds-is : Store.storage_of s a ≡ some (holds_in s a)
  unfolding Store.storage_of
  holds-is =
      let f : Store.snaps_of s.count a ≡ some (snaps_in s.count a) =
      ap (λ (n : ℕ). Store.snaps_of n a) (sym h.held.many) ∙ stands-found a (snaps_in s.count a) h.held.stands in
      rw (le-leb s.count 100 h.few, f)

  -- what is held beside the area
  pub beside-is : Store.beside (holds_in s a) ≡ s
  beside-is = ap (λ (n : ℕ). record { count = n; ack_tick = s.ack_tick; delta_tick = s.delta_tick }) h.held.many
