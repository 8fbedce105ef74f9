-- A table whose keys rise is determined by what is found in it. Assumes nothing.
use Rattle.std.specs.Prelude.{ℕ, suc, ◌<◌, ◌≤◌, ◌≡◌, refl, true, List, [], ◌∷◌, ℤ, length}
use Rattle.std.proofs.Common.{sym, ap, ap₂, ◌∙◌, subst, ⊎_elim, arith, length-append, eq-eqb, ne_eqb}
use Rattle.std.proofs.Math.Option.{Option, some, none}
use Rattle.definitions.specs.Tables.{Item, Table, body, rising, find}
use Rattle.laws.specs.Tests.{below}
use Rattle.laws.specs.TableFind.{order}
use Rattle.laws.specs.TableWalk.{Rises, rises, rise}

-- ---- what is found

-- nothing is found in the empty table
pub find-nil : (j : ℕ) → find j [] ≡ none
unfolding find
find-nil j = refl

-- the first item is found
pub find_head : (x : Item) (t : Table) → find x.key (x ∷ t) ≡ some x.values
unfolding find
find_head x t = rw (eq-eqb x.key x.key refl)

-- another key is found behind it
pub find-tail : (j : ℕ) (x : Item) (t : Table) → (x.key ≡ j → ⊥) → find j (x ∷ t) ≡ find j t
unfolding find
find-tail j x t n = rw (ne_eqb x.key j n)

-- what is found is not nothing
pub found-not-none : {P : Type 0} {o : Option (List ℤ)} {w : List ℤ} → o ≡ some w → o ≡ none → P
found-not-none e f = let z : ◌≡◌ {A = ℕ} 0 1 = cc in absurd (omega arith)

-- no key below the first is found
pub find-below : (low j : ℕ) (t : Table) → rising low t ≡ true → j < low → find j t ≡ none
find-below low j [] e l = find-nil j
find-below low j (x ∷ t) e l =
    let r = rises low x t e in
    find-tail j x t (λ q. omega (arith, r.from)) ∙ find-below (suc x.key) j t r.rest (omega (arith, r.from))

-- a key that is found is not below
pub found-above : (low j : ℕ) (w : List ℤ) (t : Table) → rising low t ≡ true → find j t ≡ some w → low ≤ j
found-above low j w t e f =
    ⊎_elim (λ (l : j < low). found-not-none f (find-below low j t e l)) (λ (l : low ≤ j). l) (below j low)

-- ---- two tables

-- keys that rise from their first on
from_first : (low : ℕ) (x : Item) (t : Table) → rising low (x ∷ t) ≡ true → rising x.key (x ∷ t) ≡ true
from_first low x t e =
    let r = rises low x t e in rise x.key x t (record { from = omega arith; whole = r.whole; rest = r.rest })

-- if a table has all keys of another, its first key is not above the other's
not-above : (low : ℕ) (x y : Item) (t u : Table) → rising low (y ∷ u) ≡ true → find x.key (x ∷ t) ≡ find x.key (y ∷ u) → y.key ≤ x.key
not-above low x y t u f h =
    found-above y.key x.key x.values (y ∷ u) (from_first low y u f) (sym h ∙ find_head x t)

-- the same key and equal data make the same item
same_item : (x y : Item) → x.key ≡ y.key → x.values ≡ y.values → x ≡ y
same_item x y k v = ap₂ (λ (i : ℕ) (w : List ℤ). record { key = i; values = w }) k v

-- two tables whose keys rise and in which the same is found at every key are equal
pub same-found : (low : ℕ) (t u : Table) → rising low t ≡ true → rising low u ≡ true → ((j : ℕ) → find j t ≡ find j u) → t ≡ u
same-found low [] [] e f h = refl
same-found low [] (y ∷ u) e f h = found-not-none (find_head y u) (sym (h y.key) ∙ find-nil y.key)
same-found low (x ∷ t) [] e f h = found-not-none (find_head x t) (h x.key ∙ find-nil x.key)
same-found low (x ∷ t) (y ∷ u) e f h =
    let p = h x.key in
    let q = find_head x t in
    let q' = find_head y u in
    let g : find x.key (y ∷ u) ≡ find y.key (y ∷ u) = ap (λ (j : ℕ). find j (y ∷ u)) k in
    let v : x.values ≡ y.values = cc in
    ap₂ (λ (i : Item) (l : Table). i ∷ l) (same_item x y k v) (same-found (suc x.key) t u r.rest su tails)
  where
    r : Rises low x t
    r = rises low x t e

    k : x.key ≡ y.key
    k =
        let a = not-above low x y t u f (h x.key) in
        let b = not-above low y x u t e (sym (h y.key)) in
        omega arith

    su : rising (suc x.key) u ≡ true
    su = subst (λ (j : ℕ). rising (suc j) u ≡ true) (sym k) (rises low y u f).rest

    tails : (j : ℕ) → find j t ≡ find j u
    tails j =
        ⊎_elim
        (λ (l : j < suc x.key). find-below (suc x.key) j t r.rest l ∙ sym (find-below (suc x.key) j u su l))
        (λ (l : suc x.key ≤ j). sym (find-tail j x t (λ q. omega arith)) ∙ (h j ∙ find-tail j y u (λ q. omega (arith, k))))
        (below j (suc x.key))

-- ---- a table whose keys another has, with equally long data, is no longer

-- each item of s has one with its key in t, with equally long data
abbrev pub Within : Table → Table → Type 0
Within s t = (j : ℕ) (w : List ℤ) → find j s ≡ some w → (v : List ℤ) × (find j t ≡ some v) × (length v ≡ length w)

-- the first item of t, whose key is less, is not needed
past-tail : (s t : Table) (x y : Item) → rising x.key (x ∷ s) ≡ true → y.key < x.key → Within (x ∷ s) (y ∷ t) → Within (x ∷ s) t
past-tail s t x y e l h j w f =
    let a : x.key ≤ j = found-above x.key j w (x ∷ s) e f in
    let r = h j w f in
    (r.0, sym (find-tail j y t (λ q. omega arith)) ∙ r.1, r.2)

-- if the first keys are equal, the rest is within the rest
both-tails : (s t : Table) (x y : Item) → rising (suc x.key) s ≡ true → y.key ≡ x.key → Within (x ∷ s) (y ∷ t) → Within s t
both-tails s t x y e k h j w f =
    let a : suc x.key ≤ j = found-above (suc x.key) j w s e f in
    let r = h j w (find-tail j x s (λ q. omega arith) ∙ f) in
    (r.0, sym (find-tail j y t (λ q. omega arith)) ∙ r.1, r.2)

-- and the first items are as long
head-length : (s t : Table) (x y : Item) → y.key ≡ x.key → Within (x ∷ s) (y ∷ t) → length y.values ≡ length x.values
head-length s t x y k h =
    let r = h x.key x.values (find_head x s) in
    let p = find_head y t in
    let g : find y.key (y ∷ t) ≡ find x.key (y ∷ t) = ap (λ (j : ℕ). find j (y ∷ t)) k in
    let q = r.1 in
    let v : y.values ≡ r.0 = cc in
    ap length v ∙ r.2

-- so it has no more items, and no more ints
pub no_longer : (low from : ℕ) (s t : Table) → rising low s ≡ true → rising from t ≡ true → Within s t → (length s ≤ length t) × (length (body s) ≤ length (body t))
unfolding body
no_longer low from [] t e f h = (omega arith, omega arith)
no_longer low from (x ∷ s) [] e f h =
    let r = h x.key x.values (find_head x s) in
    found-not-none r.1 (find-nil x.key)
no_longer low from (x ∷ s) (y ∷ t) e f h =
    ⊎_elim
    (λ (l : y.key < x.key).
    let i = no_longer x.key (suc y.key) (x ∷ s) t re (rises from y t f).rest (past-tail s t x y re l h) in
    (omega arith, omega (arith, length-append y.values (body t), i.1)))
    (⊎_elim
    (λ (k : y.key ≡ x.key).
    let i = no_longer (suc x.key) (suc y.key) s t r.rest (rises from y t f).rest (both-tails s t x y r.rest k h) in
    (omega arith, omega (arith, length-append y.values (body t), length-append x.values (body s), head-length s t x y k h, i.1)))
    (λ (l : x.key < y.key).
    let q = h x.key x.values (find_head x s) in
    let d = found-above y.key x.key q.0 (y ∷ t) (from_first from y t f) q.1 in
    absurd (omega arith)))
    (order y.key x.key)
  where
    r : Rises low x s
    r = rises low x s e

    re : rising x.key (x ∷ s) ≡ true
    re = from_first low x s e
