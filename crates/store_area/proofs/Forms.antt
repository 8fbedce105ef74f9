-- The check of a store's form: table by table, and then zeros. Assumes nothing.
use mathlib.Core.Path.{◌≡◌, refl, sym, ap, ◌∙◌}
use mathlib.Core.Bool.{Bool, true, false, cond, ◌&&◌, and_assoc, and-true}
use mathlib.Core.List.{List, [], ◌∷◌, ◌++◌, append_assoc, append-nil}
use mathlib.Core.Option.{Option, some, none}
use Prim.Native.Nat.{ℕ, suc, ◌+◌, ◌-◌, ◌<◌, ◌≤◌}
use native.Mathlib.Numerals.{add-one}
use native.Mathlib.Omega.{arith}
use borrow.Author.Tests.{eq-eqb, ne_eqb, eqb-true}
use lib.Dec.{eqb}
use lib.IntN.{ℤ, pos}
use lib.ListN.{length, get_or, take, drop, length-append, length-take, length-drop, drop_of_length-le}
use lib.Seq.{drop-drop, drop-cons}
use Rattle.definitions.specs.Tables.{Table, num, nat, written, table_of, items, size}
use Rattle.definitions.specs.Storage.{StoredSnap, store_ints, all_zero, exactly, cons_snap, snaps_of}
use Rattle.laws.specs.StoreForm.{store_room, room-none, room_cons}
use Rattle.laws.specs.TableRoundTrip.{soundly}
use Rattle.laws.specs.TableShape.{some_is}
use Rattle.laws.specs.TableForm.{length-written, length-form}
use Rattle.table.specs.Forms.{formed, unformed}
use Rattle.table.specs.Held as Held
use Rattle.store_area.specs.Held.{form_of, first_table, size_of}
use Rattle.store_area.proofs.Places.{ints-append}
use Rattle.std.specs.Prelude.{Some, None}

-- ---- one table

-- a list from a place on that has two ints there
two : (a : List ℤ) (p : ℕ) → p + 2 ≤ length a → drop p a ≡ get_or a p (pos 0) ∷ get_or a (p + 1) (pos 0) ∷ drop (p + 2) a
two a p h =
    let n : suc (p + 1) ≡ p + 2 = omega arith in
    let e₁ : drop p a ≡ get_or a p (pos 0) ∷ drop (p + 1) a = rw (add-one p) (drop-cons a p (pos 0) (omega arith)) in
    let e₂ : drop (p + 1) a ≡ get_or a (p + 1) (pos 0) ∷ drop (p + 2) a = rw n at (drop-cons a (p + 1) (pos 0) (omega arith)) in
    e₁ ∙ ap (λ (l : List ℤ). get_or a p (pos 0) ∷ l) e₂

-- fewer than two ints
pub too_few : (a : List ℤ) (p : ℕ) → length a - p < 2 → 0 ≡ size_of (first_table (drop p a))
too_few a p h = go (drop p a) (omega (arith, length-drop p a))
  where
    go : (l : List ℤ) → length l < 2 → 0 ≡ size_of (first_table l)
    go [] k = refl
    go (x ∷ []) k = refl
    go (x ∷ y ∷ l) k = absurd (omega arith)

-- there is no table of exactly so many ints if there is none, or one of another length
none-exactly : (n : ℕ) (o : Option Table) → ((t : Table) → o ≡ some t → length (written t) ≡ n → ⊥) → 0 ≡ size_of (exactly n o)
none-exactly n none h = refl
none-exactly n (some t) h = rw (ne_eqb (length (written t)) n (λ e. h t refl e))

module _ (a : List ℤ) (p : ℕ) (h : p + 2 ≤ length a) where
  -- the ints that the table should take
  abbrev part : List ℤ
  part = take (nat a (p + 1)) (drop (p + 2) a)

  -- what is looked at
  first-is : first_table (drop p a) ≡ exactly (nat a (p + 1)) (table_of part)
  unfolding nat
  first-is = ap first_table (two a p h)

  -- more ints than there are
  pub too_long : length a - (p + 2) < nat a (p + 1) → 0 ≡ size_of (first_table (drop p a))
  too_long k =
      rw first-is
      (none-exactly (nat a (p + 1)) (table_of part) (λ t e m. omega (arith, m, ap length (soundly part t e).0, length-append (written t) (drop (length (written t)) part), length-take (nat a (p + 1)) (drop (p + 2) a), length-drop (p + 2) a)))

  module _ (s : ℕ) (q : s ≡ nat a (p + 1)) where
    -- no table
    pub no_table : None ≡ Held.form_of (table_of (take (p + 2 + s - (p + 2)) (drop (p + 2) a))) → 0 ≡ size_of (first_table (drop p a))
    no_table e =
        let d : p + 2 + s - (p + 2) ≡ nat a (p + 1) = omega arith in
        let n : table_of part ≡ none = unformed part (rw d at e) in
        rw (first-is, n)

    module _ (n k : ℕ) (e : Some (record { items = n; ints = k }) ≡ Held.form_of (table_of (take (p + 2 + s - (p + 2)) (drop (p + 2) a)))) where
      -- what the check of their form says
      held-part : Some (record { items = n; ints = k }) ≡ Held.form_of (table_of part)
      held-part =
          let d : p + 2 + s - (p + 2) ≡ nat a (p + 1) = omega arith in
          rw d at e

      -- they begin with a table
      table-there : table_of part ≡ some (items part)
      table-there = some_is part (formed part n k held-part).0.shape

      -- which takes so many of them
      ints-are : k ≡ length (written (items part))
      ints-are = let f = formed part n k held-part in f.1 ∙ sym (length-form part f.0.shape)

      -- a table of another length
      pub other_length : (k ≡ s → ⊥) → 0 ≡ size_of (first_table (drop p a))
      other_length z =
          rw (first-is, table-there, ne_eqb (length (written (items part))) (nat a (p + 1)) (λ m. z (ints-are ∙ (m ∙ sym q))))

      -- the table
      pub table_is : k ≡ s → s ≡ size_of (first_table (drop p a))
      table_is z =
          let m : length (written (items part)) ≡ nat a (p + 1) = sym ints-are ∙ (z ∙ q) in
          rw (first-is, table-there, eq-eqb (length (written (items part))) (nat a (p + 1)) m) (q ∙ sym m)

-- ---- zeros

-- one more int was looked at
pub zero-passed : (all : Bool) (n : ℕ) (a : List ℤ) (from i : ℕ) → i < length a → n ≡ nat a i → (all && all_zero (drop i a)) ≡ all_zero (drop from a)
    → ((all && eqb n 0) && all_zero (drop (i + 1) a)) ≡ all_zero (drop from a)
unfolding all_zero nat
zero-passed all n a from i h z e =
    let d : drop (i + 1) a ≡ drop (suc i) a = ap (λ (j : ℕ). drop j a) (add-one i) in
    rw (d, z) (and_assoc all (eqb (num (get_or a i (pos 0))) 0) (all_zero (drop (suc i) a)) ∙ ap (λ (l : List ℤ). all && all_zero l) (sym (drop-cons a i (pos 0) h)) ∙ e)

-- the end
pub all-zeros : (all : Bool) (a : List ℤ) (from i : ℕ) → length a ≤ i → (all && all_zero (drop i a)) ≡ all_zero (drop from a) → all ≡ all_zero (drop from a)
unfolding all_zero
all-zeros all a from i h e = sym (and-true all) ∙ ap (λ (l : List ℤ). all && all_zero l) (sym (drop_of_length-le a h)) ∙ e

-- ---- table by table

-- tables before those that may be there
abbrev pub behind : List StoredSnap → Option (List StoredSnap) → Option (List StoredSnap)
behind l (some m) = some (l ++ m)
behind l none = none

-- i tables were found, which take p ints
pub record Walked (a : List ℤ) (n i p : ℕ) : Type 0 where
  pub tables : List StoredSnap
  pub ints-are : p ≡ store_room tables
  pub few : i ≤ n
  pub room : p ≤ length a
  pub leads : snaps_of n a ≡ behind tables (snaps_of (n - i) (drop p a))

-- no tables before others
behind-nothing : (o : Option (List StoredSnap)) → o ≡ behind [] o
behind-nothing (some m) = refl
behind-nothing none = refl

-- at first
pub walk_start : (a : List ℤ) (n : ℕ) → Walked a n 0 0
walk_start a n =
    let z : n - 0 ≡ n = omega arith in
    record { tables = []; ints-are = sym room-none; few = omega arith; room = omega arith; leads = rw z (behind-nothing (snaps_of n a)) }

-- a first table, and the rest after it
pub record First (a : List ℤ) (t : Table) : Type 0 where
  pub tick : ℤ
  pub fits : 2 + length (written t) ≤ length a
  pub step : (n : ℕ) → snaps_of (suc n) a ≡ cons_snap tick (some t) (snaps_of n (drop (2 + length (written t)) a))

-- a table that takes exactly so many ints of some
exact : (a : List ℤ) (n : ℕ) (t : Table) → exactly n (table_of (take n a)) ≡ some t → (length (written t) ≡ n) × (n ≤ length a)
exact a n t e = go (table_of (take n a)) refl e
  where
    by : (u : Table) (b : Bool) → table_of (take n a) ≡ some u → eqb (length (written u)) n ≡ b → cond b (some u) none ≡ some t
        → (length (written t) ≡ n) × (n ≤ length a)
    by u true q m e =
        let d : u ≡ t = cc in
        let k : length (written u) ≡ n = eqb-true (length (written u)) n m in
        (rw (← d) k, omega (arith, k, ap length (soundly (take n a) u q).0, length-append (written u) (drop (length (written u)) (take n a)), length-take n a))
    by u false q m e = let z : ◌≡◌ {A = ℕ} 0 1 = cc in absurd (omega arith)

    go : (o : Option Table) → table_of (take n a) ≡ o → exactly n o ≡ some t → (length (written t) ≡ n) × (n ≤ length a)
    go none q e = let z : ◌≡◌ {A = ℕ} 0 1 = cc in absurd (omega arith)
    go (some u) q e = by u (eqb (length (written u)) n) q refl e

-- the first table and the rest
first : (a : List ℤ) (t : Table) → first_table a ≡ some t → First a t
unfolding snaps_of
first [] t e = let z : ◌≡◌ {A = ℕ} 0 1 = cc in absurd (omega arith)
first (tick ∷ []) t e = let z : ◌≡◌ {A = ℕ} 0 1 = cc in absurd (omega arith)
first (tick ∷ size ∷ a) t e =
    let x = exact a (num size) t e in
    let d : 2 + length (written t) ≡ suc (suc (num size)) = omega (arith, x) in
    record { tick = tick; fits = omega (arith, x); step = λ n. rw (d, e) }

-- without a first table there are none
no-first : (a : List ℤ) (n : ℕ) → first_table a ≡ none → snaps_of (suc n) a ≡ none
unfolding snaps_of
no-first [] n e = refl
no-first (tick ∷ []) n e = refl
no-first (tick ∷ size ∷ a) n e = rw e

-- a table is found after others
behind-cons : (l : List StoredSnap) (tick : ℤ) (t : Table) (o : Option (List StoredSnap))
    → behind l (cons_snap tick (some t) o) ≡ behind (l ++ record { tick = tick; snap = t } ∷ []) o
behind-cons l tick t none = refl
behind-cons l tick t (some m) = ap some (sym (append_assoc l (record { tick = tick; snap = t } ∷ []) m))

-- a size of 0 is no table
sized : (o : Option Table) (s : ℕ) → s ≡ size_of o → s ≡ 0 → o ≡ none
sized none s e z = refl
sized (some t) s e z = absurd (omega (arith, length-written t))

module _ (a : List ℤ) (n i p : ℕ) (w : Walked a n i p) (s : ℕ) (e : s ≡ size_of (first_table (drop p a))) where
  -- a table is missing
  pub walk-fails : i < n → s ≡ 0 → None ≡ form_of (snaps_of n a)
  walk-fails h z =
      let d : n - i ≡ suc (n - i - 1) = omega arith in
      let q : snaps_of (n - i) (drop p a) ≡ none = rw d (no-first (drop p a) (n - i - 1) (sized (first_table (drop p a)) s e z)) in
      rw (w.leads, q)

  -- one more table
  pub walk_turn : i < n → (s ≡ 0 → ⊥) → Walked a n (i + 1) (p + (2 + s))
  walk_turn h z = go (first_table (drop p a)) refl
    where
      go : (o : Option Table) → first_table (drop p a) ≡ o → Walked a n (i + 1) (p + (2 + s))
      go none q = absurd (z (e ∙ rw q))
      go (some t) q =
          let f = first (drop p a) t q in
          let k : s ≡ length (written t) = e ∙ rw q in
          let x : StoredSnap = record { tick = f.tick; snap = t } in
          let d : n - i ≡ suc (n - (i + 1)) = omega arith in
          let g : snaps_of (n - i) (drop p a) ≡ cons_snap f.tick (some t) (snaps_of (n - (i + 1)) (drop (p + (2 + s)) a)) =
          rw (d, k, ← drop-drop (2 + length (written t)) p a) (f.step (n - (i + 1))) in
          record {
            tables = w.tables ++ x ∷ [];
            ints-are = rw (ints-append w.tables (x ∷ [])) (omega (arith, w.ints-are, k, length-append (store_ints w.tables) (store_ints (x ∷ [])), room_cons x [], room-none));
            few = omega arith;
            room = omega (arith, f.fits, k, length-drop p a, w.room);
            leads = w.leads ∙ (ap (behind w.tables) g ∙ behind-cons w.tables f.tick t (snaps_of (n - (i + 1)) (drop (p + (2 + s)) a)));
          }

module _ (a : List ℤ) (n i p : ℕ) (w : Walked a n i p) (h : n ≤ i) (z : Bool) (e : z ≡ all_zero (drop p a)) where
  -- all tables were found
  at-end : snaps_of n a ≡ behind w.tables (cond z (some []) none)
  unfolding snaps_of
  at-end =
      let d : n - i ≡ 0 = omega arith in
      rw (w.leads, d, e)

  -- zeros after all tables
  pub walk_ends : z ≡ true → Some p ≡ form_of (snaps_of n a)
  walk_ends q = rw (at-end, q, append-nil w.tables) (ap Some w.ints-are)

  -- something else
  pub walk-spoilt : z ≡ false → None ≡ form_of (snaps_of n a)
  walk-spoilt q = rw (at-end, q)
