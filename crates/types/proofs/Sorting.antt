-- Pairs of keys and row numbers, sorted: they rise, each belongs to a row, and each row has one. Assumes nothing.
use mathlib.Core.Path.{◌≡◌, refl, sym, ap, subst, ◌∙◌}
use mathlib.Core.Bool.{Bool, true, false, cond}
use mathlib.Core.List.{List, [], ◌∷◌}
use mathlib.Core.Logic.{◌⊎◌, inl, inr, ⊎_elim}
use Prim.Native.Nat.{ℕ, zero, suc, ◌≤◌, ◌<◌}
use native.Mathlib.Omega.{arith}
use borrow.Author.Tests.{leb-true}
use lib.Dec.{leb}
use lib.ListN.{length, get_or}
use Rattle.definitions.specs.Tables.{list}
use Rattle.laws.specs.ListLaws.{get_or-list}
use Rattle.laws.specs.TableForm.{length-list}
use Rattle.sorting.specs.Sort.{insert, sort, at_most_first, rises}
use Rattle.sorting.specs.SortLaws.{and_left, and_right, sort-nil, sort-cons, length-sort, rises-sort}
use Rattle.sorting.specs.Pairs.{pair, key, place}
use Rattle.types.specs.Kinds.{SortedPairs}

-- ---- entries of a sorted list

-- x is an entry of a list
abbrev pub In : ℕ → List ℕ → Type 0
In x [] = ⊥
In x (y ∷ l) = (x ≡ y) ⊎ In x l

-- x is one of the first m values of a function
pub record Value (f : ℕ → ℕ) (m x : ℕ) : Type 0 where
  pub row : ℕ
  pub inside : row < m
  pub is : x ≡ f row

-- the entry at a place
in-at : (l : List ℕ) (p : ℕ) → p < length l → In (get_or l p 0) l
in-at [] p h = absurd (omega arith)
in-at (x ∷ l) zero h = inl refl
in-at (x ∷ l) (suc p) h = inr (in-at l p (omega arith))

-- the place of an entry
at_in : (l : List ℕ) (x : ℕ) → In x l → Value (λ p. get_or l p 0) (length l) x
at_in [] x h = absurd h
at_in (y ∷ l) x (inl e) = record { row = 0; inside = omega arith; is = e }
at_in (y ∷ l) x (inr h) = let r = at_in l x h in record { row = suc r.row; inside = omega (arith, r.inside); is = r.is }

-- one more entry
in_insert : (x y : ℕ) (l : List ℕ) → In x (insert y l) → In x (y ∷ l)
unfolding insert
in_insert x y [] h = h
in_insert x y (z ∷ l) h = go (leb y z) (in_insert x y l) h
  where
    swap : In x (y ∷ l) → In x (y ∷ z ∷ l)
    swap (inl e) = inl e
    swap (inr k) = inr (inr k)

    go : (b : Bool) → (In x (insert y l) → In x (y ∷ l)) → In x (cond b (y ∷ z ∷ l) (z ∷ insert y l)) → In x (y ∷ z ∷ l)
    go true r h = h
    go false r (inl e) = inr (inl e)
    go false r (inr h) = swap (r h)

insert-in : (x y : ℕ) (l : List ℕ) → In x (y ∷ l) → In x (insert y l)
unfolding insert
insert-in x y [] h = h
insert-in x y (z ∷ l) h = go (leb y z) (insert-in x y l) h
  where
    go : (b : Bool) → (In x (y ∷ l) → In x (insert y l)) → In x (y ∷ z ∷ l) → In x (cond b (y ∷ z ∷ l) (z ∷ insert y l))
    go true r h = h
    go false r (inl e) = inr (r (inl e))
    go false r (inr (inl e)) = inl e
    go false r (inr (inr h)) = inr (r (inr h))

-- sorting keeps the entries
in-sort : (x : ℕ) (l : List ℕ) → In x (sort l) → In x l
in-sort x [] h = subst (In x) sort-nil h
in-sort x (y ∷ l) h = ⊎_elim (λ (e : x ≡ y). inl e) (λ (k : In x (sort l)). inr (in-sort x l k)) (in_insert x y (sort l) (subst (In x) (sort-cons y l) h))

sort-in : (x : ℕ) (l : List ℕ) → In x l → In x (sort l)
sort-in x [] h = absurd h
sort-in x (y ∷ l) (inl e) = subst (In x) (sym (sort-cons y l)) (insert-in x y (sort l) (inl e))
sort-in x (y ∷ l) (inr h) = subst (In x) (sym (sort-cons y l)) (insert-in x y (sort l) (inr (sort-in x l h)))

-- a rising list, place by place
first-least : (x y : ℕ) (l : List ℕ) → rises (x ∷ l) ≡ true → In y l → x ≤ y
unfolding rises at_most_first
first-least x y [] e h = absurd h
first-least x y (z ∷ l) e (inl q) =
    let a : x ≤ z = leb-true x z (and_left (leb x z) (rises (z ∷ l)) e) in
    omega arith
first-least x y (z ∷ l) e (inr h) =
    let a : x ≤ z = leb-true x z (and_left (leb x z) (rises (z ∷ l)) e) in
    let b : z ≤ y = first-least z y l (and_right (leb x z) (rises (z ∷ l)) e) h in
    omega arith

rise-at : (l : List ℕ) → rises l ≡ true → (p q : ℕ) → p ≤ q → q < length l → get_or l p 0 ≤ get_or l q 0
unfolding rises
rise-at [] e p q h k = absurd (omega arith)
rise-at (x ∷ l) e zero zero h k = omega arith
rise-at (x ∷ l) e zero (suc q) h k = first-least x (get_or l q 0) l e (in-at l q (omega arith))
rise-at (x ∷ l) e (suc p) zero h k = absurd (omega arith)
rise-at (x ∷ l) e (suc p) (suc q) h k = rise-at l (and_right (at_most_first x l) (rises l) e) p q (omega arith) (omega arith)

-- ---- the pairs of m rows, sorted

module _ (f g : ℕ → ℕ) (m : ℕ) (e : list f m ≡ sort (list g m)) where
  at-list : (q : ℕ) → q < m → get_or (sort (list g m)) q 0 ≡ f q
  at-list q h = ap (λ (l : List ℕ). get_or l q 0) (sym e) ∙ get_or-list f m q 0 h

  length-sorted : length (sort (list g m)) ≡ m
  length-sorted = length-sort (list g m) ∙ length-list g m

  pub sorted-rise : (p q : ℕ) → p ≤ q → q < m → f p ≤ f q
  sorted-rise p q h k =
      omega (arith, at-list p (omega arith), at-list q k, rise-at (sort (list g m)) (rises-sort (list g m)) p q h (omega (arith, length-sorted)))

  -- each is one of the values
  pub sorted-value : (q : ℕ) → q < m → Value g m (f q)
  sorted-value q h =
      let i : In (get_or (sort (list g m)) q 0) (sort (list g m)) = in-at (sort (list g m)) q (omega (arith, length-sorted)) in
      let r = at_in (list g m) (f q) (in-sort (f q) (list g m) (subst (λ (x : ℕ). In x (sort (list g m))) (at-list q h) i)) in
      record { row = r.row; inside = omega (arith, r.inside, length-list g m); is = r.is ∙ get_or-list g m r.row 0 (omega (arith, r.inside, length-list g m)) }

  -- each value is one of them
  pub value-sorted : (i : ℕ) → i < m → Value f m (g i)
  value-sorted i h =
      let j : In (get_or (list g m) i 0) (list g m) = in-at (list g m) i (omega (arith, length-list g m)) in
      let r = at_in (sort (list g m)) (g i) (sort-in (g i) (list g m) (subst (λ (x : ℕ). In x (list g m)) (get_or-list g m i 0 h) j)) in
      record { row = r.row; inside = omega (arith, r.inside, length-sorted); is = r.is ∙ at-list r.row (omega (arith, r.inside, length-sorted)) }

module _ (f k : ℕ → ℕ) (m : ℕ) (few : m ≤ 1024) (e : list f m ≡ sort (list (λ j. pair (k j) j) m)) where
  -- the key and place of a pair
  pub parts : (q : ℕ) → q < m → (place (f q) < m) × (key (f q) ≡ k (place (f q)))
  parts q h =
      let r = sorted-value f (λ j. pair (k j) j) m e q h in
      let p : place (f q) ≡ r.row = omega (arith, r.is, r.inside) in
      (omega (arith, r.inside), omega (arith, r.is, r.inside, ap k p))

  pub sorted-pairs : SortedPairs f m
  sorted-pairs =
      record {
        rise = sorted-rise f (λ j. pair (k j) j) m e;
        within = λ q h. (parts q h).0;
        once = λ p q h l s. (parts p h).1 ∙ ap k s ∙ sym (parts q l).1;
      }

  -- the pair of a row
  pub row_at : (i : ℕ) → i < m → Value (λ q. place (f q)) m i
  row_at i h =
      let r = value-sorted f (λ j. pair (k j) j) m e i h in
      record { row = r.row; inside = r.inside; is = omega (arith, r.is) }
