-- What the walk over sorted entries does for each entry. Assumes nothing.
use Rattle.std.specs.Prelude.{◌≡◌, refl, Bool, true, false, cond, ◌||◌, List, [], ◌∷◌, ◌++◌, ℕ, suc, ◌+◌, ◌≤◌, eqb, leb}
use Rattle.std.proofs.Common.{sym, ap, ◌∙◌, arith, leb-true, le-leb, eq-eqb, ne_eqb}
use Rattle.sorting.specs.Pairs.{key}
use Rattle.sorting.specs.Sort.{insert, sort, at_most_first, rises}
use Rattle.sorting.specs.SortLaws.{and_left, rises-rest, sort-cons, insert_comm}
use Rattle.delta_index.specs.Entries.{is_deleted, deleted_once, first_has, last_updates, crossing}

-- by cases on a test
pub test : {P : Type 0} (t : Bool) → (t ≡ true → P) → (t ≡ false → P) → P
test true f g = f refl
test false f g = g refl

-- of three tests, the first two commute
pub or_swap : (a b c : Bool) → (a || (b || c)) ≡ (b || (a || c))
or_swap true true c = refl
or_swap true false c = refl
or_swap false true c = refl
or_swap false false c = refl

-- ---- each deleted key once

pub once-nil : (d : ℕ) → deleted_once d [] ≡ []
unfolding deleted_once
once-nil d = refl

pub once-update : (d x : ℕ) (l : List ℕ) → is_deleted x ≡ false → deleted_once d (x ∷ l) ≡ deleted_once d l
unfolding deleted_once
once-update d x l e = rw e

pub once-again : (d x : ℕ) (l : List ℕ) → is_deleted x ≡ true → d ≡ suc (key x) → deleted_once d (x ∷ l) ≡ deleted_once d l
unfolding deleted_once
once-again d x l e q = rw (e, eq-eqb d (suc (key x)) q)

pub once-new : (d x : ℕ) (l : List ℕ) → is_deleted x ≡ true → (d ≡ suc (key x) → ⊥) → deleted_once d (x ∷ l) ≡ x ∷ deleted_once (suc (key x)) l
unfolding deleted_once
once-new d x l e q = rw (e, ne_eqb d (suc (key x)) q)

-- ---- the last update of each key

pub last-nil : last_updates [] ≡ []
unfolding last_updates
last-nil = refl

pub last-deleted : (x : ℕ) (l : List ℕ) → is_deleted x ≡ true → last_updates (x ∷ l) ≡ last_updates l
unfolding last_updates
last-deleted x l e = rw e

pub last-update : (x : ℕ) (l : List ℕ) → is_deleted x ≡ false → last_updates (x ∷ l) ≡ cond (first_has (key x) l) (last_updates l) (x ∷ last_updates l)
unfolding last_updates
last-update x l e = rw e (test (first_has (key x) l) (λ q. rw q) (λ q. rw q))

-- ---- updates of deleted keys

pub cross-nil : (d : ℕ) → crossing d [] ≡ 0
unfolding crossing
cross-nil d = refl

pub cross-deleted : (d x : ℕ) (l : List ℕ) → is_deleted x ≡ true → crossing d (x ∷ l) ≡ crossing (suc (key x)) l
unfolding crossing
cross-deleted d x l e = rw e

pub cross-update : (d x : ℕ) (l : List ℕ) → is_deleted x ≡ false → crossing d (x ∷ l) ≡ cond (eqb d (suc (key x))) 1 0 + crossing d l
unfolding crossing
cross-update d x l e = rw e

-- ---- rising lists

-- whether d is at most the first key plus one, and so for all keys of a rising list
abbrev pub starts_from : ℕ → List ℕ → Bool
starts_from d [] = true
starts_from d (y ∷ l) = leb d (suc (key y))

-- the first of a rising list is at most the second
pub rises-first : (x y : ℕ) (l : List ℕ) → rises (x ∷ y ∷ l) ≡ true → x ≤ y
unfolding rises at_most_first
rises-first x y l r = leb-true x y (and_left (leb x y) (rises (y ∷ l)) r)

-- a rising list with a number before it that is at most the first
pub rises-cons : (x y : ℕ) (l : List ℕ) → x ≤ y → rises (y ∷ l) ≡ true → rises (x ∷ y ∷ l) ≡ true
unfolding rises at_most_first
rises-cons x y l h r = rw (le-leb x y h) r

-- a rising list without its second number
pub rises-skip : (x y : ℕ) (l : List ℕ) → rises (x ∷ y ∷ l) ≡ true → rises (x ∷ l) ≡ true
unfolding rises at_most_first
rises-skip x y [] r = refl
rises-skip x y (z ∷ l) r =
    let a = rises-first x y (z ∷ l) r in
    let b = rises-first y z l (rises-rest x (y ∷ z ∷ l) r) in
    rw (le-leb x z (omega arith)) (rises-rest y (z ∷ l) (rises-rest x (y ∷ z ∷ l) r))

-- after the first, the keys start no lower
pub starts-rest : (d x : ℕ) (l : List ℕ) → rises (x ∷ l) ≡ true → d ≤ suc (key x) → starts_from d l ≡ true
starts-rest d x [] r h = refl
starts-rest d x (y ∷ l) r h = le-leb d (suc (key y)) (omega (arith, rises-first x y l r))

-- a number in the middle can be inserted last
pub sort-middle : (a : List ℕ) (x : ℕ) (b : List ℕ) → sort (a ++ x ∷ b) ≡ insert x (sort (a ++ b))
sort-middle [] x b = sort-cons x b
sort-middle (y ∷ a) x b =
    sort-cons y (a ++ x ∷ b) ∙ (ap (insert y) (sort-middle a x b) ∙ (insert_comm y x (sort (a ++ b)) ∙ ap (insert x) (sym (sort-cons y (a ++ b)))))
