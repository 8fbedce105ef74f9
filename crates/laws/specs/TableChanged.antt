-- A table with items kept, replaced and inserted: what is found in it, and that its keys rise. Assumes nothing.
use Rattle.std.specs.Prelude.{ℕ, suc, ◌<◌, ◌^◌, ◌≡◌, refl, Bool, true, false, cond, List, [], ◌∷◌, ℤ, ltb, eqb}
use Rattle.std.proofs.Common.{sym, ◌∙◌, subst, true≢false, arith, ne_eqb, eqb-true}
use Rattle.std.proofs.Math.Option.{Option, some, none}
use Rattle.std.proofs.lemmas.Bool.{eqb-false}
use Rattle.definitions.specs.Tables.{Item, Table, rising, find, is_some, insert}
use Rattle.definitions.specs.DeltaReading.{elem}
use Rattle.definitions.specs.Applying.{kept, replace}
use Rattle.laws.specs.TableWalk.{Rises, rises, rise, rising-less}
use Rattle.laws.specs.TableReadSound.{rising-insert, not-here}

-- ---- what is kept

-- what is found at a key where some keys were deleted
abbrev Kept : ℕ → List ℕ → Table → Type 0
Kept j g b = find j (kept g b) ≡ cond (elem j g) none (find j b)

-- a deleted key is not found; another as before
pub find-kept : (j : ℕ) (g : List ℕ) (b : Table) → Kept j g b
unfolding find kept
find-kept j g [] = flat (elem j g)
  where
    flat : (p : Bool) → ◌≡◌ {A = Option (List ℤ)} none (cond p none none)
    flat true = refl
    flat false = refl
find-kept j g (x ∷ b) = go (elem x.key g) (eqb x.key j) refl refl (find-kept j g b)
  where
    here : (p : Bool) → elem x.key g ≡ p → eqb x.key j ≡ true → elem j g ≡ p
    here p e f = subst (λ (i : ℕ). elem i g ≡ p) (eqb-true x.key j f) e

    go : (p q : Bool) → elem x.key g ≡ p → eqb x.key j ≡ q → Kept j g b
        → find j (cond p (kept g b) (x ∷ kept g b)) ≡ cond (elem j g) none (cond q (some x.values) (find j b))
    go true true e f r = r ∙ rw (here true e f)
    go true false e f r = r
    go false true e f r = rw (f, here false e f)
    go false false e f r = rw f r

-- the kept keys rise
pub rising-kept : (low : ℕ) (g : List ℕ) (b : Table) → rising low b ≡ true → rising low (kept g b) ≡ true
unfolding kept
rising-kept low g [] e = e
rising-kept low g (x ∷ b) e = go (elem x.key g) (rising-kept (suc x.key) g b r.rest)
  where
    r : Rises low x b
    r = rises low x b e

    go : (p : Bool) → rising (suc x.key) (kept g b) ≡ true → rising low (cond p (kept g b) (x ∷ kept g b)) ≡ true
    go true h = rising-less low (suc x.key) (kept g b) (omega (arith, r.from)) h
    go false h = rise low x (kept g b) (record { from = r.from; whole = r.whole; rest = h })

-- ---- one item in its place

-- an item found at its key, the others as before
abbrev pub Put : Item → Table → Table → Type 0
Put i t s = (j : ℕ) → find j s ≡ cond (eqb i.key j) (some i.values) (find j t)

-- an item with another key is found before i, or not
other : (x i : Item) (j : ℕ) (a b : Option (List ℤ)) → (x.key ≡ i.key → ⊥) → a ≡ cond (eqb i.key j) (some i.values) b
    → cond (eqb x.key j) (some x.values) a ≡ cond (eqb i.key j) (some i.values) (cond (eqb x.key j) (some x.values) b)
other x i j a b n r = go (eqb x.key j) refl
  where
    go : (p : Bool) → eqb x.key j ≡ p → cond p (some x.values) a ≡ cond (eqb i.key j) (some i.values) (cond p (some x.values) b)
    go true q =
        let e : x.key ≡ j = eqb-true x.key j q in
        rw (ne_eqb i.key j (λ d. n (e ∙ sym d)))
    go false q = r

-- a new item
pub find-insert : (i : Item) (t : Table) → is_some (find i.key t) ≡ false → Put i t (insert i t)
unfolding find insert
find-insert i [] n j = refl
find-insert i (x ∷ t) n j = go (ltb i.key x.key) (find-insert i t h.1 j)
  where
    h : (x.key ≡ i.key → ⊥) × (is_some (find i.key t) ≡ false)
    h = not-here x t i.key n

    go : (p : Bool) → find j (insert i t) ≡ cond (eqb i.key j) (some i.values) (find j t)
        → find j (cond p (i ∷ x ∷ t) (x ∷ insert i t)) ≡ cond (eqb i.key j) (some i.values) (cond (eqb x.key j) (some x.values) (find j t))
    go true r = refl
    go false r = other x i j (find j (insert i t)) (find j t) h.0 r

-- an item in the place of another
pub find-replace : (i : Item) (t : Table) → is_some (find i.key t) ≡ true → Put i t (replace i t)
unfolding find replace
find-replace i [] n j = absurd (true≢false (sym n))
find-replace i (x ∷ t) n j = go (eqb x.key i.key) refl n (λ m. find-replace i t m j)
  where
    same : (b : Bool) (v w : Option (List ℤ)) (o : Option (List ℤ)) → cond b v o ≡ cond b v (cond b w o)
    same true v w o = refl
    same false v w o = refl

    go : (p : Bool) → eqb x.key i.key ≡ p → is_some (cond p (some x.values) (find i.key t)) ≡ true
        → (is_some (find i.key t) ≡ true → find j (replace i t) ≡ cond (eqb i.key j) (some i.values) (find j t))
        → find j (cond p (i ∷ t) (x ∷ replace i t)) ≡ cond (eqb i.key j) (some i.values) (cond (eqb x.key j) (some x.values) (find j t))
    go true q m r = rw (eqb-true x.key i.key q) (same (eqb i.key j) (some i.values) (some x.values) (find j t))
    go false q m r = other x i j (find j (replace i t)) (find j t) (eqb-false x.key i.key q) (r m)

-- the keys are as before
pub rising-replace : (low : ℕ) (i : Item) (t : Table) → rising low t ≡ true → rising low (replace i t) ≡ true
unfolding replace
rising-replace low i [] e = e
rising-replace low i (x ∷ t) e = go (eqb x.key i.key) refl (rising-replace (suc x.key) i t r.rest)
  where
    r : Rises low x t
    r = rises low x t e

    go : (p : Bool) → eqb x.key i.key ≡ p → rising (suc x.key) (replace i t) ≡ true → rising low (cond p (i ∷ t) (x ∷ replace i t)) ≡ true
    go true q h =
        let k : x.key ≡ i.key = eqb-true x.key i.key q in
        rise low i t (record { from = omega (arith, r.from); whole = omega (arith, r.whole); rest = subst (λ (n : ℕ). rising (suc n) t ≡ true) k r.rest })
    go false q h = rise low x (replace i t) (record { from = r.from; whole = r.whole; rest = h })

-- ---- an item that is new, or replaces the one with its key

-- the table with it
abbrev pub placed : Item → Table → Table
placed i t = cond (is_some (find i.key t)) (replace i t) (insert i t)

-- it is found
pub find-placed : (i : Item) (t : Table) → Put i t (placed i t)
find-placed i t j = go (is_some (find i.key t)) refl
  where
    go : (p : Bool) → is_some (find i.key t) ≡ p → find j (cond p (replace i t) (insert i t)) ≡ cond (eqb i.key j) (some i.values) (find j t)
    go true e = find-replace i t e j
    go false e = find-insert i t e j

-- and the keys rise
pub rising-placed : (i : Item) (t : Table) → rising 0 t ≡ true → i.key < 2 ^ 32 → rising 0 (placed i t) ≡ true
rising-placed i t e h = go (is_some (find i.key t)) refl
  where
    go : (p : Bool) → is_some (find i.key t) ≡ p → rising 0 (cond p (replace i t) (insert i t)) ≡ true
    go true f = rising-replace 0 i t e
    go false f = rising-insert i t 0 e f (omega arith) h
