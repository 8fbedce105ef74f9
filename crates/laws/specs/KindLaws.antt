-- The kinds of a table: which items name them, and how one more item changes them. Assumes nothing.
use Rattle.std.specs.Prelude.{ℕ, suc, ◌+◌, ◌/◌, ◌<◌, ◌≤◌, ◌^◌, ◌≡◌, refl, Bool, true, false, cond, ◌&&◌, List, [], ◌∷◌, ◌++◌, ℤ, length, take, ltb, leb, eqb}
use Rattle.std.proofs.Common.{sym, ap, ◌∙◌, subst, true≢false, arith, lt-ltb, le-ltb, eq-eqb, ne_eqb, eqb-true}
use Rattle.std.proofs.Math.Option.{some, none}
use Rattle.std.proofs.lemmas.Bool.{lt-leb, eqb-false}
use Rattle.definitions.specs.Ints.{bits}
use Rattle.definitions.specs.Tables.{Item, Table, rising, find, is_some, insert, negatives, positives, walk}
use Rattle.definitions.specs.Types.{type_of, same_ints, kind_number}
use Rattle.definitions.specs.Builder.{kinds_run, num_kinds}
use Rattle.laws.specs.TableShape.{both}
use Rattle.laws.specs.TableWalk.{Rises, rises}
use Rattle.laws.specs.TableSettled.{find_head}
use Rattle.laws.specs.TableEach.{eqb_swap}

-- ---- ints of the same bits

-- either list first
pub same_ints-swap : (v w : List ℤ) → same_ints v w ≡ same_ints w v
unfolding same_ints
same_ints-swap [] [] = refl
same_ints-swap [] (y ∷ w) = refl
same_ints-swap (x ∷ v) [] = refl
same_ints-swap (x ∷ v) (y ∷ w) = rw (eqb_swap (bits x) (bits y), same_ints-swap v w)

-- ---- the items that name kinds

-- whether an item names a kind
abbrev pub names_kind : Item → Bool
names_kind x = eqb (type_of x) 0

-- their keys are of 16 bits
pub kind-below : (x : Item) → names_kind x ≡ true → x.key < 65536
kind-below x e = omega (arith, eqb-true (x.key / 65536) 0 e)

-- no other key is
pub plain-above : (x : Item) → names_kind x ≡ false → 65536 ≤ x.key
plain-above x e = let n = eqb-false (x.key / 65536) 0 e in omega arith

-- an item whose key is not of 16 bits names none
pub is_plain : (x : Item) → 65536 ≤ x.key → names_kind x ≡ false
is_plain x l = ne_eqb (x.key / 65536) 0 (λ e. omega arith)

-- one whose key is of 16 bits names one
pub is-kind : (x : Item) → x.key < 65536 → names_kind x ≡ true
is-kind x l = eq-eqb (x.key / 65536) 0 (omega arith)

-- the data of the items that name kinds
unfoldable pub kinds_in : Table → List (List ℤ)
kinds_in [] = []
kinds_in (x ∷ t) = cond (names_kind x) (x.values ∷ kinds_in t) (kinds_in t)

-- in two tables, one behind the other
kinds_in-append : (t u : Table) → kinds_in (t ++ u) ≡ kinds_in t ++ kinds_in u
unfolding kinds_in
kinds_in-append [] u = refl
kinds_in-append (x ∷ t) u = go (names_kind x) (kinds_in-append t u)
  where
    go : (p : Bool) → kinds_in (t ++ u) ≡ kinds_in t ++ kinds_in u → cond p (x.values ∷ kinds_in (t ++ u)) (kinds_in (t ++ u)) ≡ cond p (x.values ∷ kinds_in t) (kinds_in t) ++ kinds_in u
    go true e = ap (λ (l : List (List ℤ)). x.values ∷ l) e
    go false e = e

-- none has a key that is negative as signed
kinds_in-halves : (t : Table) → (kinds_in (negatives t) ≡ []) × (kinds_in (positives t) ≡ kinds_in t)
unfolding kinds_in negatives positives
kinds_in-halves [] = (refl, refl)
kinds_in-halves (x ∷ t) = go (leb (2 ^ 31) x.key) (names_kind x) refl refl (kinds_in-halves t)
  where
    go : (p q : Bool) → leb (2 ^ 31) x.key ≡ p → names_kind x ≡ q → (kinds_in (negatives t) ≡ []) × (kinds_in (positives t) ≡ kinds_in t)
        → (kinds_in (cond p (x ∷ negatives t) (negatives t)) ≡ []) × (kinds_in (cond p (positives t) (x ∷ positives t)) ≡ cond q (x.values ∷ kinds_in t) (kinds_in t))
    go true true e f r = absurd (true≢false (sym e ∙ lt-leb (2 ^ 31) x.key (omega (arith, kind-below x f))))
    go true false e f r = (rw f r.0, r.1)
    go false true e f r = (r.0, rw f (ap (λ (l : List (List ℤ)). x.values ∷ l) r.1))
    go false false e f r = (r.0, rw f r.1)

-- the walk names the kinds in the same order
pub kinds_in-walk : (t : Table) → kinds_in (walk t) ≡ kinds_in t
kinds_in-walk t =
    let h = kinds_in-halves t in
    kinds_in-append (negatives t) (positives t) ∙ rw h.0 h.1

-- ---- a plain item more

-- the kinds are as before
pub kinds_in-plain : (i : Item) (t : Table) → names_kind i ≡ false → kinds_in (insert i t) ≡ kinds_in t
unfolding kinds_in insert
kinds_in-plain i [] e = rw e
kinds_in-plain i (x ∷ t) e = go (ltb i.key x.key) (kinds_in-plain i t e)
  where
    go : (p : Bool) → kinds_in (insert i t) ≡ kinds_in t → kinds_in (cond p (i ∷ x ∷ t) (x ∷ insert i t)) ≡ cond (names_kind x) (x.values ∷ kinds_in t) (kinds_in t)
    go true r = rw e
    go false r = rw r

-- and run as before
pub kinds_run-plain : (n : ℕ) (i : Item) (t : Table) → names_kind i ≡ false → kinds_run n (insert i t) ≡ kinds_run n t
unfolding kinds_run insert
kinds_run-plain n i [] e = rw e
kinds_run-plain n i (x ∷ t) e = go (ltb i.key x.key) (λ m. kinds_run-plain m i t e)
  where
    go : (p : Bool) → ((m : ℕ) → kinds_run m (insert i t) ≡ kinds_run m t) → kinds_run n (cond p (i ∷ x ∷ t) (x ∷ insert i t)) ≡ cond (names_kind x) (eqb x.key n && (eqb (length x.values) 4 && kinds_run (suc n) t)) (kinds_run n t)
    go true r = rw e
    go false r = rw (r n, r (suc n))

-- ---- an item more that names a kind

-- keys from 65536 on name none
no-kinds : (n low : ℕ) (t : Table) → rising low t ≡ true → 65536 ≤ low → (kinds_in t ≡ []) × (num_kinds t ≡ 0) × (kinds_run n t ≡ true)
unfolding kinds_in num_kinds kinds_run
no-kinds n low [] e l = (refl, refl, refl)
no-kinds n low (x ∷ t) e l =
    let r = rises low x t e in
    let h = no-kinds n (suc x.key) t r.rest (omega (arith, r.from)) in
    let p = is_plain x (omega (arith, r.from)) in
    (rw p h.0, rw p (omega (arith, h.1)), rw p h.2)

-- what a run of kinds says about the first of them
runs : (n : ℕ) (x : Item) (t : Table) → names_kind x ≡ true → kinds_run n (x ∷ t) ≡ true → (x.key ≡ n) × (length x.values ≡ 4) × (kinds_run (suc n) t ≡ true)
unfolding kinds_run
runs n x t f e =
    let d : (eqb x.key n && (eqb (length x.values) 4 && kinds_run (suc n) t)) ≡ true = rw f at e in
    let p = both (eqb x.key n) _ d in
    let q = both (eqb (length x.values) 4) _ p.1 in
    (eqb-true _ _ p.0, eqb-true _ _ q.0, q.1)

-- and of those behind a plain item
runs_on : (n : ℕ) (x : Item) (t : Table) → names_kind x ≡ false → kinds_run n (x ∷ t) ≡ true → kinds_run n t ≡ true
unfolding kinds_run
runs_on n x t f e = rw f at e

-- an item more names the last kind, and all run from n on
abbrev pub Behind : ℕ → Item → Table → Type 0
Behind n i t = (kinds_run n (insert i t) ≡ true) × (kinds_in (insert i t) ≡ kinds_in t ++ i.values ∷ [])

-- the next kind comes behind the others, and they run on
pub next-kind : (n low : ℕ) (i : Item) (t : Table) → rising low t ≡ true → kinds_run n t ≡ true → i.key ≡ n + num_kinds t → i.key < 65536 → length i.values ≡ 4
    → Behind n i t
unfolding kinds_run kinds_in insert num_kinds
next-kind n low i [] e k q l v =
    rw (is-kind i l, eq-eqb i.key n (omega arith), eq-eqb (length i.values) 4 v) (refl, refl)
next-kind n low i (x ∷ t) e k q l v =
    go (names_kind x) refl (λ h m. next-kind (suc n) (suc x.key) i t r.rest h m l v)
  where
    r : Rises low x t
    r = rises low x t e

    go : (p : Bool) → names_kind x ≡ p → (kinds_run (suc n) t ≡ true → i.key ≡ suc n + num_kinds t → Behind (suc n) i t)
        → (kinds_run n (cond (ltb i.key x.key) (i ∷ x ∷ t) (x ∷ insert i t)) ≡ true)
        × (kinds_in (cond (ltb i.key x.key) (i ∷ x ∷ t) (x ∷ insert i t)) ≡ cond (names_kind x) (x.values ∷ kinds_in t) (kinds_in t) ++ i.values ∷ [])
    go true f more =
        let s = runs n x t f k in
        let m : i.key ≡ n + (1 + num_kinds t) = rw f at q in
        let h = more s.2 (omega arith) in
        rw (le-ltb i.key x.key (omega (arith, s.0)), f, eq-eqb x.key n s.0, eq-eqb (length x.values) 4 s.1, h.0, h.1) (refl, refl)
    go false f more =
        let a = plain-above x f in
        let s = no-kinds (suc n) (suc x.key) t r.rest (omega arith) in
        let m : i.key ≡ n + (0 + num_kinds t) = rw f at q in
        rw (lt-ltb i.key x.key (omega arith), is-kind i l, eq-eqb i.key n (omega (arith, s.1)), eq-eqb (length i.values) 4 v, f, s.0, s.2) (refl, refl)

-- ---- the number of a kind

-- what is found is found with an item more in front
found-behind : (j : ℕ) (x : Item) (t : Table) → is_some (find j t) ≡ true → is_some (find j (x ∷ t)) ≡ true
unfolding find
found-behind j x t e = go (eqb x.key j)
  where
    go : (p : Bool) → is_some (cond p (some x.values) (find j t)) ≡ true
    go true = refl
    go false = e

-- it is that of an item that names a kind
pub has-number : (k : List ℤ) (n m : ℕ) (t : Table) → kinds_run m t ≡ true → kind_number k t ≡ some n → (m ≤ n) × (n < 65536) × (is_some (find n t) ≡ true)
unfolding kind_number
has-number k n m [] r e = let z : ◌≡◌ {A = ℕ} 0 1 = cc in absurd (omega arith)
has-number k n m (x ∷ t) r e =
    go (names_kind x) (same_ints (take 4 x.values) k) refl e (λ j q. has-number k n j t q)
  where
    go : (p q : Bool) → names_kind x ≡ p → cond (p && q) (some x.key) (kind_number k t) ≡ some n
        → ((j : ℕ) → kinds_run j t ≡ true → kind_number k t ≡ some n → (j ≤ n) × (n < 65536) × (is_some (find n t) ≡ true))
        → (m ≤ n) × (n < 65536) × (is_some (find n (x ∷ t)) ≡ true)
    go true true f d h =
        let same : x.key ≡ n = cc in
        let s = runs m x t f r in
        (omega (arith, s.0), omega (arith, kind-below x f), ap is_some (subst (λ (j : ℕ). find j (x ∷ t) ≡ some x.values) same (find_head x t)))
    go true false f d h =
        let s = runs m x t f r in
        let g = h (suc m) s.2 d in
        (omega (arith, g.0), g.1, found-behind n x t g.2)
    go false q f d h =
        let g = h m (runs_on m x t f r) d in
        (g.0, g.1, found-behind n x t g.2)

-- none of some kinds is k
abbrev pub Unlike : List ℤ → List (List ℤ) → Type 0
Unlike k [] = Unit {0}
Unlike k (x ∷ l) = (same_ints (take 4 x) k ≡ false) × Unlike k l

-- where k has no number, none of the kinds is k
pub no_number : (k : List ℤ) (t : Table) → kind_number k t ≡ none → Unlike k (kinds_in t)
unfolding kind_number kinds_in
no_number k [] e = tt
no_number k (x ∷ t) e = go (names_kind x) (same_ints (take 4 x.values) k) refl e (no_number k t)
  where
    go : (p q : Bool) → same_ints (take 4 x.values) k ≡ q → cond (p && q) (some x.key) (kind_number k t) ≡ none → (kind_number k t ≡ none → Unlike k (kinds_in t)) → Unlike k (cond p (x.values ∷ kinds_in t) (kinds_in t))
    go true true f d h = let z : ◌≡◌ {A = ℕ} 0 1 = cc in absurd (omega arith)
    go true false f d h = (f, h d)
    go false q f d h = h d
