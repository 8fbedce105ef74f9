-- Whether a key is found among the items of an index, and whether items lack their kind. Assumes nothing.
use mathlib.Core.Path.{◌≡◌, refl, sym, ap, subst, ◌∙◌}
use mathlib.Core.Bool.{Bool, true, false, not, ◌||◌}
use mathlib.Core.List.{List}
use mathlib.Core.Logic.{⊎_elim}
use Prim.Native.Nat.{ℕ, suc, ◌+◌, ◌-◌, ◌/◌, ◌≤◌, ◌<◌}
use native.Mathlib.Numerals.{add-one}
use native.Mathlib.Omega.{arith}
use borrow.Author.Tests.{eqb-true, eqb-false, lt-ltb, le-ltb}
use lib.Dec.{eqb}
use lib.IntN.{ℤ}
use Rattle.definitions.specs.Tables.{Item, Table, key_of, find, is_some}
use Rattle.definitions.specs.Types.{type_of}
use Rattle.laws.specs.TableFind.{find_none, find-some, order}
use Rattle.types.specs.Picks.{Picks, key_in, item_of, table_in, seg, Lower, lacks_kind, any_lacks}

-- ---- the item with a key

module _ (a : List ℤ) (n : ℕ) (index : List ℕ) (x : Picks a n index) (k r : ℕ) (l : Lower (key_in a index) n k r) where
  only : (j : ℕ) → j < n → key_in a index j ≡ k → j ≡ r
  only j h e =
      ⊎_elim
      (λ (m : j < r). let z : ⊥ = omega (arith, l.below j m) in absurd z)
      (⊎_elim (λ (q : j ≡ r). q) (λ (m : r < j). let z : ⊥ = omega (arith, x.indexed.rise r j m h, l.above r (omega arith) (omega arith)) in absurd z))
      (order j r)

  none_found : (r < n → key_in a index r ≡ k → ⊥) → false ≡ is_some (find k (table_in a n index))
  none_found g =
      sym (ap is_some (find_none (item_of a index) k n (λ i h e.
      let q : i ≡ r = only i h e in
      g (omega arith) (subst (λ (j : ℕ). key_in a index j ≡ k) q e))))

  pub absent : n ≤ r → false ≡ is_some (find k (table_in a n index))
  absent h = none_found (λ i e. omega arith)

  pub tested : (v : ℕ) → v ≡ key_in a index r → r < n → eqb v k ≡ is_some (find k (table_in a n index))
  tested v q h = ap (λ (y : ℕ). eqb y k) q ∙ go (eqb (key_in a index r) k) refl
    where
      go : (b : Bool) → eqb (key_in a index r) k ≡ b → eqb (key_in a index r) k ≡ is_some (find k (table_in a n index))
      go true e = e ∙ sym (ap is_some (find-some (item_of a index) k n r h (eqb-true (key_in a index r) k e) only))
      go false e = e ∙ none_found (λ i d. eqb-false (key_in a index r) k e d)

-- ---- items that lack their kind

module _ (t : Table) where
  pub lacks-not : (x : Item) (type : ℕ) → type ≡ x.key / 65536 → type < 16384 → false ≡ lacks_kind t x
  unfolding lacks_kind
  lacks-not x type e h = rw (lt-ltb (type_of x) 16384 (omega arith))

  pub lacks-found : (x : Item) (type : ℕ) (b : Bool) → type ≡ x.key / 65536 → 16384 ≤ type → b ≡ is_some (find type t) → not b ≡ lacks_kind t x
  unfolding lacks_kind
  lacks-found x type b e h q =
      let k : key_of 0 (type_of x) ≡ type = omega arith in
      rw (le-ltb (type_of x) 16384 (omega arith), q, k)

  module _ (f : ℕ → Item) (j to : ℕ) where
    pub first-lacks : j < to → any_lacks t (seg f j (to - j)) ≡ (lacks_kind t (f j) || any_lacks t (seg f (j + 1) (to - (j + 1))))
    first-lacks h =
        let e : to - j ≡ suc (to - (j + 1)) = omega arith in
        rw (e) (unfold any_lacks in rw (add-one j))

    pub none-lacks : to ≤ j → any_lacks t (seg f j (to - j)) ≡ false
    none-lacks h = let e : to - j ≡ 0 = omega arith in rw e (unfold any_lacks in refl)
