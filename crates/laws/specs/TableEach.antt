-- Every item of a table, and the keys of a table, of its walk and of what creation lists. Assumes nothing.
use Rattle.std.specs.Prelude.{ℕ, ◌^◌, ◌≡◌, refl, Bool, cond, ◌||◌, List, [], ◌∷◌, ◌++◌, ℤ, leb, eqb}
use Rattle.std.proofs.Common.{sym, ◌∙◌, subst, eq-eqb, ne_eqb, eqb-true}
use Rattle.std.proofs.Math.Bool.{true, false}
use Rattle.std.proofs.Math.Option.{Option, some, none}
use Rattle.std.proofs.lemmas.Bool.{eqb-false}
use Rattle.definitions.specs.Tables.{Item, Table, find, is_some, negatives, positives, walk}
use Rattle.definitions.specs.Deltas.{keys}
use Rattle.definitions.specs.DeltaMaking.{differences, lacking, changes}
use Rattle.definitions.specs.DeltaReading.{elem}
use Rattle.laws.specs.PackLaws.{Whole}
use Rattle.laws.specs.TableSettled.{find-nil, find_head, find-tail, found-not-none}
use Rattle.laws.specs.DeltaLaws.{WholeData, absent, there}

-- ---- of every item

-- a property that every item has
pub data Each (P : Item → Type 0) : Table → Type 0 where
  no_more : Each P []
  one : {x : Item} {t : Table} → P x → Each P t → Each P (x ∷ t)

module _ (P : Item → Type 0) where
  -- the items of two tables, one behind the other
  pub each_append : {t u : Table} → Each P t → Each P u → Each P (t ++ u)
  each_append no_more q = q
  each_append (one p r) q = one p (each_append r q)

  -- the items of both halves
  each_halves : {t : Table} → Each P t → Each P (negatives t) × Each P (positives t)
  unfolding negatives positives
  each_halves no_more = (no_more, no_more)
  each_halves (one {x} {t} p r) = go (leb (2 ^ 31) x.key) (each_halves r)
    where
      go : (b : Bool) → Each P (negatives t) × Each P (positives t) → Each P (cond b (x ∷ negatives t) (negatives t)) × Each P (cond b (positives t) (x ∷ positives t))
      go true e = (one p e.0, e.1)
      go false e = (e.0, one p e.1)

  -- of every item of the walk too
  pub each-walk : {t : Table} → Each P t → Each P (walk t)
  each-walk e = let h = each_halves e in each_append h.0 h.1

-- every data int fits 32 bits
abbrev pub WholeTable : Table → Type 0
WholeTable t = Each (λ (x : Item). Whole x.values) t

-- so do those of the item that is found
pub whole-found : {t : Table} → WholeTable t → (j : ℕ) (o : Option (List ℤ)) → find j t ≡ o → WholeData o
whole-found e j none q = absent
whole-found no_more j (some v) q = found-not-none q (find-nil j)
whole-found (one {x} {t} p r) j (some v) q = go (eqb x.key j) refl (λ f. whole-found r j (some v) f)
  where
    go : (b : Bool) → eqb x.key j ≡ b → (find j t ≡ some v → WholeData (some v)) → WholeData (some v)
    go true f h =
        let k : x.key ≡ j = eqb-true x.key j f in
        let d : find j (x ∷ t) ≡ some x.values = subst (λ (i : ℕ). find i (x ∷ t) ≡ some x.values) k (find_head x t) in
        let same : x.values ≡ v = cc in
        there (subst Whole same p)
    go false f h = h (sym (find-tail j x t (eqb-false x.key j f)) ∙ q)

-- ---- keys among those of a table

-- the test of two numbers commutes
pub eqb_swap : (a b : ℕ) → eqb a b ≡ eqb b a
eqb_swap a b = go (eqb b a) refl
  where
    go : (p : Bool) → eqb b a ≡ p → eqb a b ≡ p
    go true e = eq-eqb a b (sym (eqb-true b a e))
    go false e = ne_eqb a b (λ q. eqb-false b a e (sym q))

-- a key is among those of a table where it is found
pub elem-found : (j : ℕ) (t : Table) → elem j (keys t) ≡ is_some (find j t)
unfolding find
elem-found j [] = refl
elem-found j (x ∷ t) = rw (eqb_swap j x.key) (go (eqb x.key j) (elem-found j t))
  where
    go : (p : Bool) → elem j (keys t) ≡ is_some (find j t) → (p || elem j (keys t)) ≡ is_some (cond p (some x.values) (find j t))
    go true e = refl
    go false e = e

-- among the keys of two tables, one behind the other
elem-append : (j : ℕ) (t u : Table) → elem j (keys (t ++ u)) ≡ (elem j (keys t) || elem j (keys u))
-- among the keys of two tables, one behind the other
elem-append j [] u = refl
-- among the keys of two tables, one behind the other
elem-append j (x ∷ t) u = go (eqb j x.key) (elem-append j t u)
  where
    go : (p : Bool) → elem j (keys (t ++ u)) ≡ (elem j (keys t) || elem j (keys u)) → (p || elem j (keys (t ++ u))) ≡ ((p || elem j (keys t)) || elem j (keys u))
    go true e = refl
    go false e = e

-- among the keys of both halves
elem-halves : (j : ℕ) (t : Table) → (elem j (keys (negatives t)) || elem j (keys (positives t))) ≡ elem j (keys t)
unfolding negatives positives
-- among the keys of both halves
elem-halves j [] = refl
-- among the keys of both halves
elem-halves j (x ∷ t) = go (leb (2 ^ 31) x.key) (elem-halves j t)
  where
    turn : (e n p k : Bool) → (n || p) ≡ k → (n || (e || p)) ≡ (e || k)
    turn true true p k h = refl
    turn true false p k h = refl
    turn false n p k h = h

    first : (e n p k : Bool) → (n || p) ≡ k → ((e || n) || p) ≡ (e || k)
    first true n p k h = refl
    first false n p k h = h

    go : (q : Bool) → (elem j (keys (negatives t)) || elem j (keys (positives t))) ≡ elem j (keys t)
        → (elem j (keys (cond q (x ∷ negatives t) (negatives t))) || elem j (keys (cond q (positives t) (x ∷ positives t)))) ≡ elem j (keys (x ∷ t))
    go true h = first (eqb j x.key) (elem j (keys (negatives t))) (elem j (keys (positives t))) (elem j (keys t)) h
    go false h = turn (eqb j x.key) (elem j (keys (negatives t))) (elem j (keys (positives t))) (elem j (keys t)) h

-- the walk has the same keys
pub elem-walk : (j : ℕ) (t : Table) → elem j (keys (walk t)) ≡ elem j (keys t)
elem-walk j t = elem-append j (negatives t) (positives t) ∙ elem-halves j t

-- a key of b is lacking if t does not have it
abbrev Lacked : ℕ → Table → Table → Type 0
Lacked j t b = is_some (find j (lacking t b)) ≡ cond (is_some (find j t)) false (is_some (find j b))

-- what is found in what t lacks of b
pub found-lacking : (j : ℕ) (t b : Table) → Lacked j t b
unfolding lacking find
found-lacking j t [] = flat (is_some (find j t))
  where
    flat : (p : Bool) → false ≡ cond p false false
    flat true = refl
    flat false = refl
found-lacking j t (x ∷ b) = go (is_some (find x.key t)) (eqb x.key j) refl refl (found-lacking j t b)
  where
    here : (p : Bool) → is_some (find x.key t) ≡ p → eqb x.key j ≡ true → is_some (find j t) ≡ p
    here p e f = subst (λ (i : ℕ). is_some (find i t) ≡ p) (eqb-true x.key j f) e

    go : (p q : Bool) → is_some (find x.key t) ≡ p → eqb x.key j ≡ q → Lacked j t b
        → is_some (find j (cond p (lacking t b) (x ∷ lacking t b))) ≡ cond (is_some (find j t)) false (is_some (cond q (some x.values) (find j b)))
    go true true e f r = r ∙ rw (here true e f)
    go true false e f r = r
    go false true e f r = rw (f, here false e f)
    go false false e f r = rw f r

-- the changes have the target's keys
pub found-changes : (j : ℕ) (b t : Table) → is_some (find j (changes b t)) ≡ is_some (find j t)
unfolding changes find
found-changes j b [] = refl
found-changes j b (x ∷ t) = go (eqb x.key j) (found-changes j b t)
  where
    go : (q : Bool) → is_some (find j (changes b t)) ≡ is_some (find j t) → is_some (cond q (some (differences (find x.key b) x.values)) (find j (changes b t))) ≡ is_some (cond q (some x.values) (find j t))
    go true r = refl
    go false r = r
