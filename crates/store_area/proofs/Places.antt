-- Tables in a store's area: their ints and their places. Assumes nothing.
use mathlib.Core.Path.{◌≡◌, refl, sym, ap, ◌∙◌}
use mathlib.Core.Bool.{true}
use mathlib.Core.List.{List, [], ◌∷◌, ◌++◌, append_assoc}
use Prim.Native.Nat.{ℕ, suc, ◌+◌, ◌-◌, ◌<◌, ◌≤◌}
use native.Mathlib.Numerals.{add-one}
use native.Mathlib.Omega.{arith}
use lib.IntN.{ℤ, pos}
use lib.ListN.{length, get_or, take, drop, replicate, length-append, take-append-drop}
use lib.Seq.{take_at, drop_at, get_or_at, split_at, take-suc}
use Rattle.definitions.specs.Tables.{num, nat, written, sound}
use Rattle.definitions.specs.Storage.{StoredSnap, store_ints}
use Rattle.laws.specs.StoreForm.{sound-short, room-none, room_cons}
use Rattle.store_area.specs.Held.{snap_at, no_snap, Stands, place_of}
use Rattle.store_area.specs.Laid.{sound-at}

-- the ints of two lists of tables
pub ints-append : (l m : List StoredSnap) → store_ints (l ++ m) ≡ store_ints l ++ store_ints m
unfolding store_ints
ints-append [] m = refl
ints-append (x ∷ l) m =
    rw (ints-append l m) (ap (λ (r : List ℤ). x.tick ∷ pos (length (written x.snap)) ∷ r) (sym (append_assoc (written x.snap) (store_ints l) (store_ints m))))

-- the ints of a table and others
pub ints-cons : (x : StoredSnap) (l : List StoredSnap) → store_ints (x ∷ l) ≡ x.tick ∷ pos (length (written x.snap)) ∷ written x.snap ++ store_ints l
unfolding store_ints
ints-cons x l = refl

-- ---- a table in its area

-- a table is at a place
pub record Entry (a : List ℤ) (p : ℕ) (x : StoredSnap) : Type 0 where
  pub tick_is : get_or a p (pos 0) ≡ x.tick
  pub size_is : nat a (p + 1) ≡ length (written x.snap)
  pub table_is : take (length (written x.snap)) (drop (p + 2) a) ≡ written x.snap
  pub room : p + 2 + length (written x.snap) ≤ length a
  pub short : length (written x.snap) ≤ 16384

-- a table between other ints
entry : (x : StoredSnap) (u v a : List ℤ) → sound x.snap ≡ true → a ≡ u ++ (x.tick ∷ pos (length (written x.snap)) ∷ (written x.snap ++ v))
    → Entry a (length u) x
unfolding nat num
entry x u v a s e =
    let w = written x.snap in
    let k = pos (length w) in
    let e₁ : a ≡ (u ++ x.tick ∷ []) ++ (k ∷ (w ++ v)) = e ∙ simp append_assoc in
    let e₂ : a ≡ (u ++ (x.tick ∷ k ∷ [])) ++ (w ++ v) = e ∙ simp append_assoc in
    let l₁ : length (u ++ x.tick ∷ []) ≡ length u + 1 = omega (arith, length-append u (x.tick ∷ [])) in
    let l₂ : length (u ++ (x.tick ∷ k ∷ [])) ≡ length u + 2 = omega (arith, length-append u (x.tick ∷ k ∷ [])) in
    let size : get_or a (length u + 1) (pos 0) ≡ k = rw e₁ (get_or_at (u ++ x.tick ∷ []) k (w ++ v) (pos 0) (length u + 1) l₁) in
    record {
      tick_is = rw e (get_or_at u x.tick (k ∷ (w ++ v)) (pos 0) (length u) refl);
      size_is = ap num size;
      table_is = rw (e₂, drop_at (u ++ (x.tick ∷ k ∷ [])) (w ++ v) (length u + 2) l₂) (take_at w v (length w) refl);
      room = omega (arith, ap length e₂, length-append (u ++ (x.tick ∷ k ∷ [])) (w ++ v), length-append w v, l₂);
      short = sound-short x.snap s;
    }

module _ (a : List ℤ) (l : List StoredSnap) (h : Stands a l) where
  -- the i-th table is at its place
  pub entry_at : (i : ℕ) → i < length l → Entry a (place_of l i) (snap_at l i)
  entry_at i k =
      let x = snap_at l i in
      let m = drop (suc i) l in
      let z = replicate (length a - length (store_ints l)) (pos 0) in
      let w = written x.snap in
      let e : store_ints l ≡ store_ints (take i l) ++ (x.tick ∷ pos (length w) ∷ (w ++ store_ints m)) =
      ap store_ints (split_at l i no_snap k) ∙ (ints-append (take i l) (x ∷ m) ∙ ap (λ (r : List ℤ). store_ints (take i l) ++ r) (ints-cons x m)) in
      entry x (store_ints (take i l)) (store_ints m ++ z) a (sound-at l i h.sounds k)
      (h.area-is ∙ (ap (λ (r : List ℤ). r ++ z) e ∙ simp append_assoc))

-- the next table begins after a table
pub next_place : (l : List StoredSnap) (i : ℕ) → i < length l → place_of l (i + 1) ≡ place_of l i + (2 + length (written (snap_at l i).snap))
next_place l i k =
    let x = snap_at l i in
    let e : take (i + 1) l ≡ take i l ++ x ∷ [] = rw (add-one i) (take-suc l i no_snap k) in
    rw (e, ints-append (take i l) (x ∷ []))
    (omega (arith, length-append (store_ints (take i l)) (store_ints (x ∷ [])), room_cons x [], room-none))

-- the first tables, and those after them
pub ints-split : (l : List StoredSnap) (i : ℕ) → store_ints l ≡ store_ints (take i l) ++ store_ints (drop i l)
ints-split l i = ap store_ints (sym (take-append-drop i l)) ∙ ints-append (take i l) (drop i l)
