-- The delta between two tables: its lists in the order of the signed walk, and no key in both. Assumes nothing.
use Rattle.std.specs.Prelude.{ℕ, suc, ◌^◌, ◌≡◌, refl, Bool, cond, true, false, List, [], ◌∷◌, ◌++◌, leb, eqb}
use Rattle.std.proofs.Common.{sym, ap, ◌∙◌, true≢false, arith, le-leb, lt-ltb, eq-eqb, eqb-true}
use Rattle.std.proofs.Math.Option.{some}
use Rattle.definitions.specs.Tables.{Item, Table, rising, find, is_some, negatives, positives, walk}
use Rattle.definitions.specs.Deltas.{rank, keys, signed_rising, is_in_order}
use Rattle.definitions.specs.DeltaMaking.{differences, lacking, changes, delta_from}
use Rattle.definitions.specs.DeltaReading.{elem}
use Rattle.laws.specs.TableWalk.{Rises, rises, rise, rising-less, Turning, walk-turns}
use Rattle.laws.specs.DeltaReadBack.{apart}

-- ---- the walk of what one table lacks, and of the changes

-- what a table lacks of two others, one behind the other
pub lacking-append : (t b c : Table) → lacking t (b ++ c) ≡ lacking t b ++ lacking t c
unfolding lacking
lacking-append t [] c = refl
lacking-append t (x ∷ b) c = go (is_some (find x.key t)) (lacking-append t b c)
  where
    go : (p : Bool) → lacking t (b ++ c) ≡ lacking t b ++ lacking t c → cond p (lacking t (b ++ c)) (x ∷ lacking t (b ++ c)) ≡ cond p (lacking t b) (x ∷ lacking t b) ++ lacking t c
    go true e = e
    go false e = ap (λ (l : Table). x ∷ l) e

halves-lacking : (t b : Table) → (negatives (lacking t b) ≡ lacking t (negatives b)) × (positives (lacking t b) ≡ lacking t (positives b))
unfolding negatives positives lacking
halves-lacking t [] = (refl, refl)
halves-lacking t (x ∷ b) = go (is_some (find x.key t)) (leb (2 ^ 31) x.key) refl refl (halves-lacking t b)
  where
    go : (p q : Bool) → is_some (find x.key t) ≡ p → leb (2 ^ 31) x.key ≡ q → (negatives (lacking t b) ≡ lacking t (negatives b)) × (positives (lacking t b) ≡ lacking t (positives b))
        → (negatives (cond p (lacking t b) (x ∷ lacking t b)) ≡ lacking t (cond q (x ∷ negatives b) (negatives b))) × (positives (cond p (lacking t b) (x ∷ lacking t b)) ≡ lacking t (cond q (positives b) (x ∷ positives b)))
    go true true e f r = (rw e r.0, r.1)
    go true false e f r = (r.0, rw e r.1)
    go false true e f r = (rw (e, f) (ap (λ (l : Table). x ∷ l) r.0), rw f r.1)
    go false false e f r = (rw f r.0, rw (e, f) (ap (λ (l : Table). x ∷ l) r.1))

-- the walk of what a table lacks is what it lacks of the walk
pub walk-lacking : (t b : Table) → walk (lacking t b) ≡ lacking t (walk b)
walk-lacking t b =
    let h = halves-lacking t b in
    rw (h.0, h.1) (sym (lacking-append t (negatives b) (positives b)))

-- the changes to two tables, one behind the other
pub changes-append : (b t u : Table) → changes b (t ++ u) ≡ changes b t ++ changes b u
unfolding changes
changes-append b [] u = refl
changes-append b (x ∷ t) u =
    ap (λ (l : List Item). record { key = x.key; values = differences (find x.key b) x.values } ∷ l) (changes-append b t u)

halves-changes : (b t : Table) → (negatives (changes b t) ≡ changes b (negatives t)) × (positives (changes b t) ≡ changes b (positives t))
unfolding negatives positives changes
halves-changes b [] = (refl, refl)
halves-changes b (x ∷ t) = go (leb (2 ^ 31) x.key) (halves-changes b t)
  where
    y : Item
    y = record { key = x.key; values = differences (find x.key b) x.values }

    go : (q : Bool) → (negatives (changes b t) ≡ changes b (negatives t)) × (positives (changes b t) ≡ changes b (positives t))
        → (cond q (y ∷ negatives (changes b t)) (negatives (changes b t)) ≡ changes b (cond q (x ∷ negatives t) (negatives t))) × (cond q (positives (changes b t)) (y ∷ positives (changes b t)) ≡ changes b (cond q (positives t) (x ∷ positives t)))
    go true r = (ap (λ (l : List Item). y ∷ l) r.0, r.1)
    go false r = (r.0, ap (λ (l : List Item). y ∷ l) r.1)

-- the walk of the changes is the changes of the walk
pub walk-changes : (b t : Table) → walk (changes b t) ≡ changes b (walk t)
walk-changes b t =
    let h = halves-changes b t in
    rw (h.0, h.1) (sym (changes-append b (negatives t) (positives t)))

-- ---- in order

pub rising-lacking : (low : ℕ) (t b : Table) → rising low b ≡ true → rising low (lacking t b) ≡ true
unfolding lacking
rising-lacking low t [] e = e
rising-lacking low t (x ∷ b) e = go (is_some (find x.key t)) (rising-lacking (suc x.key) t b (rises low x b e).rest)
  where
    r : Rises low x b
    r = rises low x b e

    go : (p : Bool) → rising (suc x.key) (lacking t b) ≡ true → rising low (cond p (lacking t b) (x ∷ lacking t b)) ≡ true
    go true h = rising-less low (suc x.key) (lacking t b) (omega (arith, r.from)) h
    go false h = rise low x (lacking t b) (record { from = r.from; whole = r.whole; rest = h })

pub rising-changes : (low : ℕ) (b t : Table) → rising low t ≡ true → rising low (changes b t) ≡ true
unfolding changes
rising-changes low b [] e = e
rising-changes low b (x ∷ t) e =
    let r = rises low x t e in
    rise low _ (changes b t) (record { from = r.from; whole = r.whole; rest = rising-changes (suc x.key) b t r.rest })

turning-keys : (low : ℕ) (t : Table) → Turning low t → signed_rising low (keys t) ≡ true
unfolding signed_rising rank
turning-keys low [] h = refl
turning-keys low (x ∷ t) h =
    rw (le-leb low (rank x.key) h.0, lt-ltb x.key (2 ^ 32) h.1) (turning-keys (suc (rank x.key)) t h.2)

-- the walk of a table whose keys rise lists them in signed order
pub walk-keys : (t : Table) → rising 0 t ≡ true → signed_rising 0 (keys (walk t)) ≡ true
walk-keys t e = turning-keys 0 (walk t) (walk-turns t e)

-- both lists of the delta between two tables rise as signed
pub delta_from-in_order : (b t : Table) → rising 0 b ≡ true → rising 0 t ≡ true → is_in_order (delta_from b t) ≡ true
unfolding is_in_order delta_from
delta_from-in_order b t e f =
    rw (walk-keys (lacking t b) (rising-lacking 0 t b e), walk-keys (changes b t) (rising-changes 0 b t f))

-- ---- no key is deleted and updated

-- every item's key is found in t
abbrev pub Known : Table → Table → Type 0
Known t [] = Unit {0}
Known t (x ∷ u) = (is_some (find x.key t) ≡ true) × Known t u

known_more : (x : Item) (t u : Table) → Known t u → Known (x ∷ t) u
unfolding find
known_more x t [] h = tt
known_more x t (y ∷ u) h = (go (eqb x.key y.key) h.0, known_more x t u h.1)
  where
    go : (p : Bool) → is_some (find y.key t) ≡ true → is_some (cond p (some x.values) (find y.key t)) ≡ true
    go true e = refl
    go false e = e

pub known-own : (t : Table) → Known t t
unfolding find
known-own [] = tt
known-own (x ∷ t) = (rw (eq-eqb x.key x.key refl), known_more x t t (known-own t))

known-append : (t u v : Table) → Known t u → Known t v → Known t (u ++ v)
known-append t [] v h k = k
known-append t (x ∷ u) v h k = (h.0, known-append t u v h.1 k)

known-halves : (t u : Table) → Known t u → Known t (negatives u) × Known t (positives u)
unfolding negatives positives
known-halves t [] h = (tt, tt)
known-halves t (x ∷ u) h = go (leb (2 ^ 31) x.key) (known-halves t u h.1)
  where
    go : (q : Bool) → Known t (negatives u) × Known t (positives u) → Known t (cond q (x ∷ negatives u) (negatives u)) × Known t (cond q (positives u) (x ∷ positives u))
    go true r = ((h.0, r.0), r.1)
    go false r = (r.0, (h.0, r.1))

-- what a table lacks has no key that is found in it
not-lacking : (k : ℕ) (t b : Table) → is_some (find k t) ≡ true → elem k (keys (lacking t b)) ≡ false
unfolding lacking
not-lacking k t [] e = refl
not-lacking k t (x ∷ b) e = go (is_some (find x.key t)) refl (eqb k x.key) refl (not-lacking k t b e)
  where
    go : (p : Bool) → is_some (find x.key t) ≡ p → (q : Bool) → eqb k x.key ≡ q → elem k (keys (lacking t b)) ≡ false → elem k (keys (cond p (lacking t b) (x ∷ lacking t b))) ≡ false
    go true f q g r = r
    go false f true g r =
        let i : k ≡ x.key = eqb-true k x.key g in
        absurd (true≢false (sym e ∙ (ap (λ (j : ℕ). is_some (find j t)) i ∙ f)))
    go false f false g r = rw g r

apart-known : (b c t u : Table) → Known t u → apart (keys (lacking t c)) (changes b u) ≡ true
unfolding apart changes
apart-known b c t [] h = refl
apart-known b c t (x ∷ u) h = rw (not-lacking x.key t c h.0) (apart-known b c t u h.1)

-- no key of the delta between two tables is deleted and updated
pub delta_from-apart : (b t : Table) → apart (delta_from b t).deleted (delta_from b t).updated ≡ true
unfolding delta_from
delta_from-apart b t =
    let h = known-halves t t (known-own t) in
    rw (walk-lacking t b, walk-changes b t)
    (apart-known b (walk b) t (walk t) (known-append t (negatives t) (positives t) h.0 h.1))
