-- The data of the item that has a key.
use Prim.Native.Nat.{ℕ, zero, suc, ◌<◌, ◌≤◌}
use Rattle.std.specs.Prelude.{◌≡◌, ◌⊎◌, Bool, cond, true, false, List, [], ◌∷◌, ◌++◌, ℤ, eqb}
use Rattle.std.proofs.Math.Path.{refl}
use Rattle.std.proofs.Common.{ap, ◌∙◌, subst, inl, inr, eq-or-lt_of_le, le_of_suc-le-suc, arith}
use Rattle.std.proofs.Math.Logic.{⊎_elim}
use Rattle.std.proofs.Math.Option.{Option, some, none}
use borrow.Author.Tests.{eq-eqb, ne_eqb}
use Rattle.definitions.specs.Tables.{Item, Table, find, list, item_at, items, key_at, values_at, count}
use Rattle.laws.specs.TableShape.{Shape, keys-rise, keys-le}

abbrev or_else : Option (List ℤ) → Option (List ℤ) → Option (List ℤ)
or_else (some v) o = some v
or_else none o = o

first : (b : Bool) (v : List ℤ) (o w r : Option (List ℤ)) → r ≡ or_else o w → cond b (some v) r ≡ or_else (cond b (some v) o) w
first true v o w r e = refl
first false v o w r e = e

find-append : (k : ℕ) (t u : Table) → find k (t ++ u) ≡ or_else (find k t) (find k u)
unfolding find
find-append k [] u = refl
find-append k (x ∷ t) u = first (eqb x.key k) x.values (find k t) (find k u) (find k (t ++ u)) (find-append k t u)

pub order : (a b : ℕ) → (a < b) ⊎ (a ≡ b) ⊎ (b < a)
order zero zero = inr (inl refl)
order zero (suc b) = inl (omega arith)
order (suc a) zero = inr (inr (omega arith))
order (suc a) (suc b) = ⊎_elim (λ (h : a < b). inl (omega arith)) (⊎_elim (λ (h : a ≡ b). inr (inl (ap suc h))) (λ (h : b < a). inr (inr (omega arith)))) (order a b)

module _ (f : ℕ → Item) (k : ℕ) where
  pub find_none : (n : ℕ) → ((i : ℕ) → i < n → (f i).key ≡ k → ⊥) → find k (list f n) ≡ none
  unfolding find list
  find_none zero h = refl
  find_none (suc n) h = find-append k (list f n) (f n ∷ []) ∙ rw (find_none n (λ i l. h i (omega arith)), ne_eqb (f n).key k (h n (omega arith)))

  pub find-some : (n i : ℕ) → i < n → (f i).key ≡ k → ((j : ℕ) → j < n → (f j).key ≡ k → j ≡ i) → find k (list f n) ≡ some (f i).values
  unfolding find list
  find-some zero i l e u = absurd (omega arith)
  find-some (suc n) i l e u = find-append k (list f n) (f n ∷ []) ∙ ⊎_elim
      (λ (q : i ≡ n). rw (find_none n (λ j m d. omega (arith, u j (omega arith) d)), ← q, eq-eqb (f i).key k e))
      (λ (m : i < n). rw (find-some n i m e (λ j r d. u j (omega arith) d)))
      (eq-or-lt_of_le (le_of_suc-le-suc l))

-- r is the place of a key: the items before it have lesser keys, the others do not
pub record Place (a : List ℤ) (k r : ℕ) : Type 0 where
  pub within : r ≤ count a
  pub below : (i : ℕ) → i < r → key_at a i < k
  pub above : (i : ℕ) → r ≤ i → i < count a → k ≤ key_at a i

module _ (a : List ℤ) (h : Shape a) (k r : ℕ) (p : Place a k r) where
  other : (i : ℕ) → i < count a → key_at a i ≡ k → i ≡ r
  other i l e = ⊎_elim
      (λ (m : i < r). absurd (omega (arith, p.below i m)))
      (⊎_elim (λ (q : i ≡ r). q) (λ (m : r < i). absurd (omega (arith, keys-rise a h r i m l, p.above r (omega arith) (omega arith)))))
      (order i r)

  pub absent : (r < count a → key_at a r ≡ k → ⊥) → find k (items a) ≡ none
  unfolding items
  absent g = find_none (item_at a) k (count a) (λ i l e.
      let q : i ≡ r = other i l e in
      g (omega arith) (subst (λ (j : ℕ). key_at a j ≡ k) q e))

  pub present : r < count a → key_at a r ≡ k → find k (items a) ≡ some (values_at a r)
  unfolding items
  present l e = find-some (item_at a) k (count a) r l e other

-- an item is at its key's place
pub own-place : (a : List ℤ) → Shape a → (k i : ℕ) → i < count a → key_at a i ≡ k → Place a k i
own-place a h k i l e =
    record {
      within = omega arith;
      below = λ j m. omega (arith, keys-rise a h j i m l);
      above = λ j m o. omega (arith, keys-le a h i j m o);
    }
