-- How many updates repeat an earlier key. Assumes nothing.
use Rattle.std.specs.Prelude.{◌≡◌, Bool, true, false, cond, ◌&&◌, ◌||◌, List, [], ◌∷◌, ◌++◌, map, ℕ, suc, ◌+◌, ◌-◌, ◌≤◌, ◌<◌, ◌^◌, eqb, leb, length}
use Rattle.std.proofs.Math.Path.{refl}
use Rattle.std.proofs.Common.{sym, ap, ◌∙◌, append-nil, append_assoc, ⊎_elim}
use native.Mathlib.Omega.{arith}
use borrow.Author.Tests.{leb-true, le-leb, eq-eqb, ne_eqb, eqb-true, eqb-false, lt-ltb, le-ltb}
use Rattle.definitions.specs.Tables.{Item, find, is_some}
use Rattle.definitions.specs.Deltas.{rank, keys}
use Rattle.definitions.specs.DeltaReading.{put, ordered, ordered_updates}
use Rattle.sorting.specs.SortLaws.{and_left, and_right}
use Rattle.laws.specs.TableFind.{order}
use Rattle.delta_index.specs.Steps.{test, or_swap}
use Rattle.delta_index.specs.Entries.{Placed}
use Rattle.delta_index.specs.Placing.{keys_fit, fit-snoc, update_key, Entered}
use Rattle.delta_index.specs.UpdateLaws.{items-ordered}
use Rattle.delta_index.specs.CrossingLaws.{eqb-rank, fit-first, fit-rest}

-- how many updates have the key of an earlier one, or of one in the first list
unfoldable pub repeated : List Item → List Item → ℕ
repeated before [] = 0
repeated before (u ∷ l) = cond (is_some (find u.key before)) 1 0 + repeated (before ++ u ∷ []) l

-- ---- items in rank order

-- whether an item has the rank r
unfoldable has_rank : ℕ → List Item → Bool
has_rank r [] = false
has_rank r (x ∷ l) = eqb (rank x.key) r || has_rank r l

-- whether the ranks rise, from low on
unfoldable ranks_rise : ℕ → List Item → Bool
ranks_rise low [] = true
ranks_rise low (x ∷ l) = leb low (rank x.key) && ranks_rise (suc (rank x.key)) l

-- an item inserted among others
abbrev put_item : Item → List Item → List Item
put_item x l = put (λ (y : Item). y.key) x l

module _ (x y : Item) (l : List Item) where
  put-lt : rank x.key < rank y.key → put_item x (y ∷ l) ≡ x ∷ y ∷ l
  unfolding put
  put-lt h = rw (lt-ltb (rank x.key) (rank y.key) h)

  put-eq : rank x.key ≡ rank y.key → put_item x (y ∷ l) ≡ y ∷ l
  unfolding put
  put-eq h = rw (le-ltb (rank x.key) (rank y.key) (omega arith), eq-eqb (rank x.key) (rank y.key) h)

  put-gt : rank y.key < rank x.key → put_item x (y ∷ l) ≡ y ∷ put_item x l
  unfolding put
  put-gt h =
      let d : rank x.key ≡ rank y.key → ⊥ = λ q. omega arith in
      rw (le-ltb (rank x.key) (rank y.key) (omega arith), ne_eqb (rank x.key) (rank y.key) d)

-- no rank is below the first
has-below : (low r : ℕ) (l : List Item) → ranks_rise low l ≡ true → r < low → has_rank r l ≡ false
unfolding has_rank ranks_rise
has-below low r [] e h = refl
has-below low r (x ∷ l) e h =
    let a : low ≤ rank x.key = leb-true low (rank x.key) (and_left (leb low (rank x.key)) (ranks_rise (suc (rank x.key)) l) e) in
    let d : rank x.key ≡ r → ⊥ = λ q. omega arith in
    rw (ne_eqb (rank x.key) r d) (has-below (suc (rank x.key)) r l (and_right (leb low (rank x.key)) (ranks_rise (suc (rank x.key)) l) e) (omega arith))

-- items that rise still rise with one more inserted
rise-put : (low : ℕ) (x : Item) (l : List Item) → low ≤ rank x.key → ranks_rise low l ≡ true → ranks_rise low (put_item x l) ≡ true
unfolding ranks_rise
rise-put low x [] h e = unfold put in rw (le-leb low (rank x.key) h)
rise-put low x (y ∷ l) h e =
    let e1 = and_left (leb low (rank y.key)) (ranks_rise (suc (rank y.key)) l) e in
    let e2 = and_right (leb low (rank y.key)) (ranks_rise (suc (rank y.key)) l) e in
    ⊎_elim
    (λ (m : rank x.key < rank y.key). rw (put-lt x y l m, le-leb low (rank x.key) h, le-leb (suc (rank x.key)) (rank y.key) m) e2)
    (⊎_elim
    (λ (m : rank x.key ≡ rank y.key). rw (put-eq x y l m) e)
    (λ (m : rank y.key < rank x.key). rw (put-gt x y l m, e1) (rise-put (suc (rank y.key)) x l m e2)))
    (order (rank x.key) (rank y.key))

rise-ordered : (l : List Item) → ranks_rise 0 (ordered_updates l) ≡ true
unfolding ordered ranks_rise
rise-ordered [] = refl
rise-ordered (x ∷ l) = rise-put 0 x (ordered_updates l) (omega arith) (rise-ordered l)

or-again : (a c : Bool) → (a || c) ≡ (a || (a || c))
or-again true c = refl
or-again false c = refl

-- one more rank to search
has-put : (r : ℕ) (x : Item) (l : List Item) → has_rank r (put_item x l) ≡ has_rank r (x ∷ l)
unfolding has_rank
has-put r x [] = unfold put in refl
has-put r x (y ∷ l) =
    ⊎_elim
    (λ (m : rank x.key < rank y.key). rw (put-lt x y l m))
    (⊎_elim
    (λ (m : rank x.key ≡ rank y.key). rw (put-eq x y l m, m) (or-again (eqb (rank y.key) r) (has_rank r l)))
    (λ (m : rank y.key < rank x.key).
    rw (put-gt x y l m, has-put r x l) (or_swap (eqb (rank y.key) r) (eqb (rank x.key) r) (has_rank r l))))
    (order (rank x.key) (rank y.key))

has-ordered : (r : ℕ) (l : List Item) → has_rank r (ordered_updates l) ≡ has_rank r l
unfolding ordered has_rank
has-ordered r [] = refl
has-ordered r (x ∷ l) = has-put r x (ordered_updates l) ∙ ap (λ (t : Bool). eqb (rank x.key) r || t) (has-ordered r l)

has-snoc : (r : ℕ) (l : List Item) (u : Item) → has_rank r (l ++ u ∷ []) ≡ (has_rank r l || eqb (rank u.key) r)
unfolding has_rank
has-snoc r [] u = test (eqb (rank u.key) r) (λ q. rw q) (λ q. rw q)
has-snoc r (x ∷ l) u = rw (has-snoc r l u) (test (eqb (rank x.key) r) (λ q. rw q) (λ q. rw q))

-- one more, unless its rank is there already
length-put : (low : ℕ) (x : Item) (l : List Item) → ranks_rise low l ≡ true → length (put_item x l) + cond (has_rank (rank x.key) l) 1 0 ≡ suc (length l)
unfolding has_rank ranks_rise
length-put low x [] e = unfold put in refl
length-put low x (y ∷ l) e =
    let e2 = and_right (leb low (rank y.key)) (ranks_rise (suc (rank y.key)) l) e in
    ⊎_elim
    (λ (m : rank x.key < rank y.key).
    let d : rank y.key ≡ rank x.key → ⊥ = λ q. omega arith in
    rw (put-lt x y l m, ne_eqb (rank y.key) (rank x.key) d, has-below (suc (rank y.key)) (rank x.key) l e2 (omega arith)) (omega arith))
    (⊎_elim
    (λ (m : rank x.key ≡ rank y.key). rw (put-eq x y l m, eq-eqb (rank y.key) (rank x.key) (sym m)) (omega arith))
    (λ (m : rank y.key < rank x.key).
    let d : rank y.key ≡ rank x.key → ⊥ = λ q. omega arith in
    rw (put-gt x y l m, ne_eqb (rank y.key) (rank x.key) d) (omega (arith, length-put (suc (rank y.key)) x l e2))))
    (order (rank x.key) (rank y.key))

-- ---- one more update at the end

eqb-sym : (a b : ℕ) → eqb a b ≡ eqb b a
eqb-sym a b =
    test (eqb b a)
    (λ (e : eqb b a ≡ true). rw e (eq-eqb a b (sym (eqb-true b a e))))
    (λ (e : eqb b a ≡ false). let n = eqb-false b a e in let d : a ≡ b → ⊥ = λ q. n (sym q) in rw e (ne_eqb a b d))

counts : (a b n m : ℕ) (p q t : Bool) → (t ≡ true → p ≡ q) → a + cond (p || t) 1 0 ≡ suc n → b + cond p 1 0 ≡ suc m → n + cond q 1 0 ≡ suc m → a + cond (t || q) 1 0 ≡ suc b
counts a b n m true true true f x y z = omega arith
counts a b n m true false true f x y z = let w : ◌≡◌ {A = ℕ} 0 1 = cc (f refl) in absurd (omega arith)
counts a b n m false true true f x y z = let w : ◌≡◌ {A = ℕ} 0 1 = cc (f refl) in absurd (omega arith)
counts a b n m false false true f x y z = omega arith
counts a b n m true true false f x y z = omega arith
counts a b n m true false false f x y z = omega arith
counts a b n m false true false f x y z = omega arith
counts a b n m false false false f x y z = omega arith

length-snoc : (l : List Item) (u : Item) → length (ordered_updates (l ++ u ∷ [])) + cond (has_rank (rank u.key) l) 1 0 ≡ suc (length (ordered_updates l))
unfolding ordered has_rank
length-snoc [] u = unfold put in refl
length-snoc (x ∷ l) u =
    let r = rank x.key in
    let b : has_rank (rank x.key) (ordered_updates (l ++ u ∷ [])) ≡ (has_rank (rank x.key) l || eqb (rank x.key) (rank u.key)) =
    has-ordered r (l ++ u ∷ []) ∙ (has-snoc r l u ∙ ap (λ (t : Bool). has_rank r l || t) (eqb-sym (rank u.key) r)) in
    counts (length (put_item x (ordered_updates (l ++ u ∷ [])))) (length (put_item x (ordered_updates l))) (length (ordered_updates (l ++ u ∷ []))) (length (ordered_updates l))
    (has_rank r l) (has_rank (rank u.key) l) (eqb r (rank u.key))
    (λ q. ap (λ (k : ℕ). has_rank k l) (eqb-true r (rank u.key) q))
    (rw b at (length-put 0 x (ordered_updates (l ++ u ∷ [])) (rise-ordered (l ++ u ∷ []))))
    (rw (has-ordered r l) at (length-put 0 x (ordered_updates l) (rise-ordered l)))
    (length-snoc l u)

-- ---- all updates

-- a key of 32 bits is found if its rank is
find-rank : (k : ℕ) (l : List Item) → k < 2 ^ 32 → keys_fit (keys l) ≡ true → is_some (find k l) ≡ has_rank (rank k) l
unfolding find has_rank
find-rank k [] h f = refl
find-rank k (x ∷ l) h f =
    rw (eqb-rank x.key k (fit-first x.key (keys l) f) h)
    (test (eqb x.key k) (λ q. rw q) (λ q. rw q (find-rank k l h (fit-rest x.key (keys l) f))))

keys-snoc : (l : List Item) (u : Item) → keys (l ++ u ∷ []) ≡ keys l ++ u.key ∷ []
keys-snoc [] u = refl
keys-snoc (x ∷ l) u = ap (λ (t : List ℕ). x.key ∷ t) (keys-snoc l u)

-- repeated and ordered updates, with earlier ones, make up all
pub repeated-behind : (before l : List Item) → keys_fit (keys before) ≡ true → keys_fit (keys l) ≡ true → repeated before l + length (ordered_updates (before ++ l)) ≡ length (ordered_updates before) + length l
unfolding repeated
repeated-behind before [] f g = rw (append-nil before) (omega arith)
repeated-behind before (u ∷ l) f g =
    let k : u.key < 2 ^ 32 = fit-first u.key (keys l) g in
    let more : keys_fit (keys (before ++ u ∷ [])) ≡ true = rw (keys-snoc before u) (fit-snoc (keys before) u.key f k) in
    let again = rw (append_assoc before (u ∷ []) l) at (repeated-behind (before ++ u ∷ []) l more (fit-rest u.key (keys l) g)) in
    rw (find-rank u.key before k f) (omega (arith, again, length-snoc before u))

-- repeated and ordered updates make up all
pub repeated-all : (l : List Item) → keys_fit (keys l) ≡ true → repeated [] l + length (ordered_updates l) ≡ length l
unfolding ordered keys_fit
repeated-all l f = omega (arith, repeated-behind [] l refl f)

-- how many are repeated
pub repeated-count : (l : List Item) → keys_fit (keys l) ≡ true → repeated [] l ≡ length l - length (ordered_updates l)
repeated-count l f = omega (arith, repeated-all l f)

-- ---- while updates are read

-- one more update
pub repeated-snoc : (before l : List Item) (u : Item) → repeated before (l ++ u ∷ []) ≡ repeated before l + cond (is_some (find u.key (before ++ l))) 1 0
unfolding repeated
repeated-snoc before [] u = rw (append-nil before) (omega arith)
repeated-snoc before (x ∷ l) u =
    omega (arith, rw (append_assoc before (x ∷ []) l) at (repeated-snoc (before ++ x ∷ []) l u))

-- the keys of updates without their places
pub keys-items : (l : List Placed) → keys (map (λ (u : Placed). u.item) l) ≡ map update_key l
keys-items [] = refl
keys-items (u ∷ l) = ap (λ (t : List ℕ). update_key u ∷ t) (keys-items l)

length-items : (l : List Placed) → length (map (λ (u : Placed). u.item) l) ≡ length l
length-items [] = refl
length-items (u ∷ l) = ap suc (length-items l)

-- how many of the updates read are repeated
pub tells-repeated : (deleted : List ℕ) (updated : List Placed) (high : ℕ) → Entered deleted updated high → repeated [] (map (λ (u : Placed). u.item) updated) + length (ordered update_key updated) ≡ length updated
tells-repeated deleted updated high e =
    let fits : keys_fit (keys (map (λ (u : Placed). u.item) updated)) ≡ true = rw (keys-items updated) e.updated_fit in
    let all = repeated-all (map (λ (u : Placed). u.item) updated) fits in
    let same = ap length (items-ordered updated) in
    omega (arith, all, same, length-items (ordered update_key updated), length-items updated)
