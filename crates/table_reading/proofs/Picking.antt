-- The items at the places of some pairs: finding a key, adding one, and the ints that they take. Assumes nothing.
use mathlib.Core.Path.{◌≡◌, refl, sym, ap}
use mathlib.Core.Bool.{Bool, true, false, cond, ◌||◌, true≢false}
use mathlib.Core.List.{List, [], ◌∷◌, map}
use mathlib.Core.Logic.{⊎_elim}
use mathlib.Core.Option.{some}
use Prim.Native.Nat.{ℕ, suc, ◌+◌, ◌<◌}
use native.Mathlib.Omega.{arith}
use borrow.Author.Tests.{lt-ltb, le-ltb, eqb-true, eqb-false, eq-eqb, ne_eqb}
use lib.Dec.{eqb, leb}
use lib.IntN.{ℤ}
use lib.ListN.{length, length-append}
use Rattle.definitions.specs.Tables.{Item, Table, body, key_at, values_at, item_at, find, is_some}
use Rattle.definitions.specs.Tables as Tables
use Rattle.laws.specs.TableFind.{order}
use Rattle.sorting.specs.Sort.{insert}
use Rattle.sorting.specs.Pairs.{key, place, has_key}
use Rattle.sorting.specs.SortLaws.{insert-le, insert-gt}
use Rattle.table_reading.specs.Reading.{picked}

pub length-picked : (a : List ℤ) (l : List ℕ) → length (picked a l) ≡ length l
length-picked a [] = refl
length-picked a (y ∷ l) = ap suc (length-picked a l)

eqb-turned : (m n : ℕ) → eqb m n ≡ eqb n m
eqb-turned m n = go (eqb m n) refl
  where
    go : (b : Bool) → eqb m n ≡ b → b ≡ eqb n m
    go true e = sym (eq-eqb n m (sym (eqb-true m n e)))
    go false e = sym (ne_eqb n m (λ q. eqb-false m n e (sym q)))

or-false : (x y : Bool) → (x || y) ≡ false → (x ≡ false) × (y ≡ false)
or-false true y e = absurd (true≢false e)
or-false false y e = (refl, e)

module _ (a : List ℤ) where
  -- the items at the places of some pairs
  abbrev pub at_places : List ℕ → Table
  at_places l = picked a (map place l)

  -- every pair is the key of one of the first c items, with its number
  abbrev pub Keyed : ℕ → List ℕ → Type 0
  Keyed c [] = Unit
  Keyed c (x ∷ l) = (key x ≡ key_at a (place x)) × (place x < c) × Keyed c l

  pub keyed-more : (c : ℕ) (l : List ℕ) → Keyed c l → Keyed (suc c) l
  keyed-more c [] h = tt
  keyed-more c (x ∷ l) h = (h.0, omega (arith, h.1), keyed-more c l h.2)

  pub keyed-insert : (c x : ℕ) (l : List ℕ) → key x ≡ key_at a (place x) → place x < c → Keyed c l → Keyed c (insert x l)
  unfolding insert
  keyed-insert c x [] k p h = (k, p, tt)
  keyed-insert c x (y ∷ l) k p h = go (leb x y) (keyed-insert c x l k p h.2)
    where
      go : (b : Bool) → Keyed c (insert x l) → Keyed c (cond b (x ∷ y ∷ l) (y ∷ insert x l))
      go true q = (k, p, h)
      go false q = (h.0, h.1, q)

  -- a key is among the items if it is among the pairs
  pub find-has : (c k : ℕ) (l : List ℕ) → Keyed c l → is_some (find k (at_places l)) ≡ has_key k l
  unfolding find has_key
  find-has c k [] h = refl
  find-has c k (x ∷ l) h =
      rw (eqb-turned k (key x), h.0) (go (eqb (key_at a (place x)) k) (find-has c k l h.2))
    where
      go : (b : Bool) → is_some (find k (at_places l)) ≡ has_key k l → is_some (cond b (some (values_at a (place x))) (find k (at_places l))) ≡ (b || has_key k l)
      go true q = refl
      go false q = q

  below : (x y : ℕ) (l : List ℕ) → key x ≡ key_at a (place x) → key y ≡ key_at a (place y) → key x < key y → Tables.insert (item_at a (place x)) (at_places (y ∷ l)) ≡ at_places (insert x (y ∷ l))
  unfolding Tables.insert
  below x y l k m q = rw (insert-le x y l (omega arith), lt-ltb (key_at a (place x)) (key_at a (place y)) (omega arith))

  behind : (x y : ℕ) (l : List ℕ) → key x ≡ key_at a (place x) → key y ≡ key_at a (place y) → key y < key x → Tables.insert (item_at a (place x)) (at_places l) ≡ at_places (insert x l) → Tables.insert (item_at a (place x)) (at_places (y ∷ l)) ≡ at_places (insert x (y ∷ l))
  unfolding Tables.insert
  behind x y l k m q e =
      rw (insert-gt x y l (omega arith), le-ltb (key_at a (place x)) (key_at a (place y)) (omega arith))
      (ap (λ (t : Table). item_at a (place y) ∷ t) e)

  -- an item whose key is new goes where its pair goes
  pub insert-new : (c x : ℕ) (l : List ℕ) → key x ≡ key_at a (place x) → has_key (key x) l ≡ false → Keyed c l → Tables.insert (item_at a (place x)) (at_places l) ≡ at_places (insert x l)
  insert-new c x [] k n h = unfold Tables.insert insert in refl
  insert-new c x (y ∷ l) k n h =
      let o = or-false (eqb (key x) (key y)) (has_key (key x) l) (unfold has_key in n) in
      let u : key x ≡ key y → ⊥ = eqb-false (key x) (key y) o.0 in
      ⊎_elim
      (λ (q : key x < key y). below x y l k h.0 q)
      (⊎_elim
      (λ (q : key x ≡ key y). absurd (u q))
      (λ (q : key y < key x). behind x y l k h.0 q (insert-new c x l k o.1 h.2)))
      (order (key x) (key y))

  -- the ints of one more item
  pub length-insert-body : (x : ℕ) (l : List ℕ) → length (body (at_places (insert x l))) ≡ suc (length (values_at a (place x))) + length (body (at_places l))
  unfolding insert body
  length-insert-body x [] = omega (arith, length-append (values_at a (place x)) [])
  length-insert-body x (y ∷ l) = go (leb x y) (length-insert-body x l)
    where
      go : (b : Bool) → length (body (at_places (insert x l))) ≡ suc (length (values_at a (place x))) + length (body (at_places l)) → length (body (at_places (cond b (x ∷ y ∷ l) (y ∷ insert x l)))) ≡ suc (length (values_at a (place x))) + length (body (at_places (y ∷ l)))
      go true q = omega (arith, length-append (values_at a (place x)) (body (at_places (y ∷ l))))
      go false q =
          omega (arith, length-append (values_at a (place y)) (body (at_places (insert x l))), length-append (values_at a (place y)) (body (at_places l)))
