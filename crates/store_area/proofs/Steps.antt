-- The turns of the loops that pass from table to table. Assumes nothing.
use mathlib.Core.Path.{◌≡◌, refl, sym, ◌∙◌, subst}
use mathlib.Core.Bool.{true, false}
use mathlib.Core.List.{List, [], ◌∷◌, ◌++◌, append_assoc, append-nil}
use Prim.Native.Nat.{ℕ, suc, ◌+◌, ◌<◌, ◌≤◌}
use native.Mathlib.Numerals.{add-one}
use native.Mathlib.Omega.{arith}
use lib.IntN.{ℤ, negsuc}
use lib.ListN.{length, take, drop, drop_of_length-le}
use lib.Seq.{drop-cons, take-suc}
use Rattle.definitions.specs.Ints.{signed_less}
use Rattle.definitions.specs.Tables.{nat}
use Rattle.definitions.specs.Storage.{StoredSnap, newest_tick, drop_older}
use Rattle.laws.specs.StoreForm.{room-none}
use Rattle.store_area.specs.Held.{snaps_in, snap_at, no_snap, HeldStore, place_of}
use Rattle.store_area.proofs.Places.{Entry, entry_at, next_place}

-- ---- places

-- the first table begins at 0
pub place-zero : (l : List StoredSnap) → 0 ≡ place_of l 0
place-zero l = sym room-none

module _ (a : List ℤ) (n : ℕ) (h : HeldStore a n) where
  -- the tables
  abbrev L : List StoredSnap
  L = snaps_in n a

  -- the i-th table, of n, is at its place
  pub here : (i p : ℕ) → i < n → p ≡ place_of L i → Entry a p (snap_at L i)
  here i p k e = subst (λ (q : ℕ). Entry a q (snap_at L i)) (sym e) (entry_at a L h.stands i (omega (arith, h.many)))

  -- from a table to the next one
  pub place-turn : (i p s : ℕ) → i < n → p ≡ place_of L i → s ≡ nat a (p + 1) → p + (2 + s) ≡ place_of L (i + 1)
  place-turn i p s k e f =
      omega (arith, f, (here i p k e).size_is, next_place L i (omega (arith, h.many)), e)

-- ---- tables that are not older

-- the tables before i are not older
abbrev pub Newer : ℤ → List StoredSnap → ℕ → Type 0
Newer tick l i = drop_older tick l ≡ take i l ++ drop_older tick (drop i l)

-- of no tables none is older
pub newer-start : (tick : ℤ) (l : List StoredSnap) → Newer tick l 0
newer-start tick l = refl

module _ (tick : ℤ) (l : List StoredSnap) (i : ℕ) (w : Newer tick l i) where
  -- the i-th is older
  pub older-here : i < length l → signed_less (snap_at l i).tick tick ≡ true → drop_older tick l ≡ take i l
  unfolding drop_older
  older-here h e = w ∙ rw (drop-cons l i no_snap h, e) (append-nil (take i l))

  -- it is not
  pub newer-turn : i < length l → signed_less (snap_at l i).tick tick ≡ false → Newer tick l (i + 1)
  unfolding drop_older
  newer-turn h e =
      let x = snap_at l i in
      let m = drop (suc i) l in
      w ∙ rw (add-one i, drop-cons l i no_snap h, e, take-suc l i no_snap h) (sym (append_assoc (take i l) (x ∷ []) (drop_older tick m)))

  -- none is older
  pub none-older : length l ≤ i → drop_older tick l ≡ take i l
  unfolding drop_older
  none-older h = w ∙ rw (drop_of_length-le l h) (append-nil (take i l))

-- ---- the newest tick

-- there is no table
pub newest-none : (l : List StoredSnap) (n : ℕ) → length l ≡ n → n ≡ 0 → negsuc 0 ≡ newest_tick l
newest-none [] n e z = refl
newest-none (x ∷ l) n e z = absurd (omega arith)

-- that of the first
pub newest-first : (l : List StoredSnap) (n : ℕ) → length l ≡ n → (n ≡ 0 → ⊥) → (snap_at l 0).tick ≡ newest_tick l
newest-first [] n e z = absurd (z (sym e))
newest-first (x ∷ l) n e z = refl
