-- Dropping tables and adding one: the store's area afterwards. Assumes nothing.
use mathlib.Core.Path.{◌≡◌, refl, sym, ap, ap₂, ◌∙◌}
use mathlib.Core.Bool.{Bool}
use mathlib.Core.List.{List, [], ◌∷◌, ◌++◌, append_assoc}
use Prim.Native.Nat.{ℕ, zero, suc, ◌+◌, ◌-◌, ◌≤◌}
use native.Mathlib.Omega.{arith}
use lib.IntN.{ℤ, pos}
use lib.ListN.{length, take, drop, set, replicate, length-append, length-drop}
use lib.Seq.{take_at, drop_at, drop-drop, length-take-le}
use borrow.Rule.Slice.PartMut.{put_mid}
use Rattle.definitions.specs.Areas.{lay_at, cleared}
use Rattle.definitions.specs.Tables.{Table, written}
use Rattle.definitions.specs.Storage.{StoredSnap, store_ints}
use Rattle.laws.specs.AreaLaws.{lay-append, lay_at-between}
use Rattle.ints.specs.Copies.{copy_at, copied, shifted}
use Rattle.laws.specs.StoreForm.{store_room, room_cons, LaidIn}
use Rattle.store_area.specs.Held.{Stands, place_of}
use Rattle.store_area.proofs.Places.{ints-split, ints-cons}

-- zeros and zeros
zeros-zeros : (m n : ℕ) → replicate m (pos 0) ++ replicate n (pos 0) ≡ replicate (m + n) (pos 0)
zeros-zeros zero n = let e : 0 + n ≡ n = omega arith in rw e
zeros-zeros (suc m) n =
    let e : suc m + n ≡ suc (m + n) = omega arith in
    rw e (ap (λ (l : List ℤ). pos 0 ∷ l) (zeros-zeros m n))

-- a cleared area is zeros
cleared-zeros : (a : List ℤ) → cleared a ≡ replicate (length a) (pos 0)
cleared-zeros [] = refl
cleared-zeros (x ∷ a) = ap (λ (l : List ℤ). pos 0 ∷ l) (cleared-zeros a)

-- fewer zeros
drop-zeros : (m n : ℕ) → drop m (replicate n (pos 0)) ≡ replicate (n - m) (pos 0)
drop-zeros zero n = let e : n - 0 ≡ n = omega arith in rw e
drop-zeros (suc m) zero = let e : 0 - suc m ≡ 0 = omega arith in rw e
drop-zeros (suc m) (suc n) = let e : suc n - suc m ≡ n - m = omega arith in rw e (drop-zeros m n)

-- ---- dropping tables

module _ (X Y : List ℤ) (z p k : ℕ) (e : length X ≡ p) (f : length Y ≡ k) where
  -- the ints of the last tables cleared
  clear-last : put_mid p k ((X ++ Y) ++ replicate z (pos 0)) (cleared (take k (drop p ((X ++ Y) ++ replicate z (pos 0))))) ≡ X ++ replicate (k + z) (pos 0)
  clear-last =
      let Z = replicate z (pos 0) in
      let g : (X ++ Y) ++ Z ≡ X ++ (Y ++ Z) = append_assoc X Y Z in
      rw (g, drop_at X (Y ++ Z) p e, take_at Y Z k f, cleared-zeros Y, take_at X (Y ++ Z) p e, drop_at Y Z k f, f)
      (ap (λ (l : List ℤ). X ++ l) (zeros-zeros k z))

-- what a cut leaves
pub cut-leaves : (a : List ℤ) (l : List StoredSnap) (h : Stands a l) (i p n : ℕ) (part : List ℤ) → p ≡ place_of l i → n ≡ store_room l
    → part ≡ cleared (take (n - p) (drop p a)) → LaidIn (length a) (take i l) (put_mid p (n - p) a part)
cut-leaves a l h i p n part e f g =
    let X = store_ints (take i l) in
    let Y = store_ints (drop i l) in
    let N = length a in
    let z = N - length (store_ints l) in
    let s : store_ints l ≡ X ++ Y = ints-split l i in
    let m : length (store_ints l) ≡ length X + length Y = ap length s ∙ length-append X Y in
    let b : a ≡ (X ++ Y) ++ replicate z (pos 0) = h.area-is ∙ ap (λ (u : List ℤ). u ++ replicate z (pos 0)) s in
    let k : n - p ≡ length Y = omega arith in
    let w : n - p + z ≡ N - length X = omega (arith, h.room) in
    ap (put_mid p (n - p) a) g
    ∙ (ap (λ (x : List ℤ). put_mid p (n - p) x (cleared (take (n - p) (drop p x)))) b
    ∙ (clear-last X Y z p (n - p) (sym e) (sym k)
    ∙ ap (λ (j : ℕ). X ++ replicate j (pos 0)) w))

-- ---- adding a table

-- the first ints moved up
moved : (a : List ℤ) (n by : ℕ) → n + by ≤ length a → shifted a 0 n by ≡ take by a ++ (take n a ++ drop (n + by) a)
unfolding shifted
moved a n by h =
    let e : 0 + by ≡ by = omega arith in
    let f : n - 0 ≡ n = omega arith in
    let m : length (take n a) ≡ n = length-take-le n a (omega arith) in
    let g : by + length (take n a) ≡ n + by = omega arith in
    rw (e, f, lay_at-between by (take n a) a (omega arith), g)

-- a tick and a count over the first two of some ints, and others after them
front : (tick k : ℤ) (g r : List ℤ) → 2 ≤ length g → set (set (g ++ r) 0 tick) 1 k ≡ tick ∷ k ∷ (drop 2 g ++ r)
front tick k [] r h = absurd (omega arith)
front tick k (x ∷ []) r h = absurd (omega arith)
front tick k (x ∷ y ∷ g) r h = refl

-- a tick, a table's int count and its ints, and two parts after them
abbrev laid_first : ℤ → List ℤ → List ℤ → List ℤ → List ℤ
laid_first tick table moved rest = tick ∷ pos (length table) ∷ (table ++ (moved ++ rest))

module _ (a : List ℤ) (n : ℕ) (t : List ℤ) (room : n + (length t + 2) ≤ length a) (tick : ℤ) where
  -- what the steps leave
  pub lays-first : (l₁ l₂ l₃ : List ℤ) (b : Bool) → l₁ ≡ shifted a 0 n (length t + 2) → l₂ ≡ set (set l₁ 0 tick) 1 (pos (length t))
      → copy_at l₂ 2 t ≡ record { fits = b; out = l₃ } → l₃ ≡ laid_first tick t (take n a) (drop (n + (length t + 2)) a)
  lays-first l₁ l₂ l₃ b e f c =
      let by = length t + 2 in
      let G = take by a in
      let R = take n a ++ drop (n + by) a in
      let lg : length G ≡ by = length-take-le by a (omega arith) in
      let D = drop 2 G in
      let ld : length D ≡ length t = omega (arith, length-drop 2 G) in
      let e₂ : l₂ ≡ tick ∷ pos (length t) ∷ (D ++ R) = f ∙ (ap (λ (l : List ℤ). set (set l 0 tick) 1 (pos (length t))) (e ∙ moved a n by room) ∙ front tick (pos (length t)) G R (omega arith)) in
      let l : length l₂ ≡ 2 + (length t + length R) = ap length e₂ ∙ omega (arith, length-append D R) in
      copied l₂ 2 t t b l₃ c refl (omega arith)
      ∙ (ap (lay_at 2 t) e₂ ∙ ap (λ (x : List ℤ). tick ∷ pos (length t) ∷ x) (lay-append t (D ++ R) (omega (arith, length-append D R)) ∙ ap (λ (x : List ℤ). t ++ x) (drop_at D R (length t) ld)))

-- ints of tables and zeros, and a table before them
pub pushes : (a : List ℤ) (l : List StoredSnap) (h : Stands a l) (n : ℕ) (t : List ℤ) (tick : ℤ) (u : Table) → n ≡ store_room l → t ≡ written u
    → n + (length t + 2) ≤ length a
    → LaidIn (length a) (record { tick = tick; snap = u } ∷ l) (laid_first tick t (take n a) (drop (n + (length t + 2)) a))
pushes a l h n t tick u e w room =
    let x : StoredSnap = record { tick = tick; snap = u } in
    let W = written u in
    let I = store_ints l in
    let N = length a in
    let z = N - length I in
    let Z = replicate z (pos 0) in
    let lt : length t ≡ length W = ap length w in
    let a₁ : take n a ≡ I = ap (take n) h.area-is ∙ take_at I Z n (sym e) in
    let d : drop n a ≡ Z = ap (drop n) h.area-is ∙ drop_at I Z n (sym e) in
    let a₂ : drop (n + (length t + 2)) a ≡ drop (length t + 2) Z = sym (drop-drop (length t + 2) n a) ∙ ap (drop (length t + 2)) d in
    let less : z - (length t + 2) ≡ N - length (store_ints (x ∷ l)) = omega (arith, room_cons x l) in
    let a₃ : drop (length t + 2) Z ≡ replicate (N - length (store_ints (x ∷ l))) (pos 0) =
    drop-zeros (length t + 2) z ∙ ap (λ (j : ℕ). replicate j (pos 0)) less in
    let R = replicate (N - length (store_ints (x ∷ l))) (pos 0) in
    let laid : laid_first tick t I R ≡ (tick ∷ pos (length W) ∷ (W ++ I)) ++ R =
    ap₂ (λ (k : ℕ) (u : List ℤ). tick ∷ pos k ∷ u) lt (ap (λ (u : List ℤ). u ++ (I ++ R)) w ∙ sym (append_assoc W I R)) in
    rw (a₁, a₂ ∙ a₃) (laid ∙ ap (λ (u : List ℤ). u ++ R) (sym (ints-cons x l)))
