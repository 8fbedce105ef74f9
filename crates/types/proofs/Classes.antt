-- Classes of rows by their first numbers, and by one more number. Assumes nothing.
use mathlib.Core.Path.{◌≡◌, refl, sym, ap, subst, ◌∙◌}
use mathlib.Core.List.{List, [], ◌∷◌, ◌++◌}
use mathlib.Core.Logic.{⊎_elim}
use Prim.Native.Nat.{ℕ, ◌+◌, ◌^◌, ◌≤◌, ◌<◌}
use native.Mathlib.Nat.{eq-or-lt_of_le}
use native.Mathlib.Numerals.{add-one}
use native.Mathlib.Omega.{arith}
use mir.Syntax.{w32}
use mir.Val.{to_z}
use mir.Facts.{of_z-to_z}
use lib.IntN.{ℤ}
use lib.ListN.{get_or}
use Rattle.definitions.specs.Ints.{bits}
use Rattle.definitions.specs.Tables.{list}
use Rattle.laws.specs.Tests.{below}
use Rattle.laws.specs.TableFind.{order}
use Rattle.sorting.specs.Sort.{sort}
use Rattle.sorting.specs.Pairs.{pair, pairs, place}
use Rattle.types.specs.Kinds.{Agree, Firsts, key_with, keyed, Leader, Leaders}
use Rattle.types.proofs.Sorting.{parts, row_at}

module _ (g : ℕ → ℕ → ℕ) where
  agree-sym : (k i j : ℕ) → Agree g k i j → Agree g k j i
  agree-sym k i j a h l = sym (a h l)

  agree_trans : (k i j l : ℕ) → Agree g k i j → Agree g k j l → Agree g k i l
  agree_trans k i j l a b h m = a h m ∙ b h m

  -- at first all rows are in one class
  pub firsts-none : (m : ℕ) (c : List ℕ) → ((j : ℕ) → j < m → get_or c j 0 ≡ 0) → Firsts g 0 m c
  firsts-none m c z j h =
      record { same = λ x l. absurd (omega arith); least = λ i l a. omega (arith, z j h) }

  module _ (k m : ℕ) (c : List ℕ) (f : Firsts g k m c) where
    -- no row comes before the first of its class
    pub first-le : (j : ℕ) → j < m → get_or c j 0 ≤ j
    first-le j h =
        ⊎_elim (λ (l : j < get_or c j 0). absurd ((f j h).least j l (λ x y. refl))) (λ (l : get_or c j 0 ≤ j). l) (below j (get_or c j 0))

    class-agree : (i j : ℕ) → i < m → j < m → get_or c i 0 ≡ get_or c j 0 → Agree g k i j
    class-agree i j a b e h l = sym ((f i a).same h l) ∙ ap (λ (x : ℕ). g x h) e ∙ (f j b).same h l

    agree-class : (i j : ℕ) → i < m → j < m → Agree g k i j → get_or c i 0 ≡ get_or c j 0
    agree-class i j a b e =
        ⊎_elim
        (λ (l : get_or c i 0 < get_or c j 0). absurd ((f j b).least (get_or c i 0) l (agree_trans k (get_or c i 0) i j (f i a).same e)))
        (⊎_elim
        (λ (q : get_or c i 0 ≡ get_or c j 0). q)
        (λ (l : get_or c j 0 < get_or c i 0). absurd ((f i a).least (get_or c j 0) l (agree_trans k (get_or c j 0) j i (f j b).same (agree-sym k i j e)))))
        (order (get_or c i 0) (get_or c j 0))

    -- if each row is the first of its class, no two rows agree
    pub settled : (n : ℕ) → k ≤ n → ((j : ℕ) → j < m → get_or c j 0 ≡ j) → Firsts g n m c
    settled n l z j h =
        record {
          same = λ x y. ap (λ (i : ℕ). g i x) (z j h);
          least = λ i y a. (f j h).least i y (λ x w. a x (omega arith));
        }

    module _ (p : ℕ → ℕ) (few : m ≤ 1024) (small : (j : ℕ) → j < m → g j k < 65536) (s : list p m ≡ sort (keyed g c k m)) where
      -- two rows with the same key
      split : (i j : ℕ) → i < m → j < m → key_with g c k i ≡ key_with g c k j → (get_or c i 0 ≡ get_or c j 0) × (g i k ≡ g j k)
      split i j a b e = (omega (arith, small i a, small j b), omega (arith, small i a, small j b))

      -- agree in one more number
      more : (i j : ℕ) → Agree g k i j → g i k ≡ g j k → Agree g (k + 1) i j
      more i j a e h l = ⊎_elim (λ (q : h ≡ k). subst (λ (x : ℕ). g i x ≡ g j x) (sym q) e) (λ (y : h < k). a h y) (eq-or-lt_of_le (omega arith))

      -- the least places of the sorted keys are the classes by one number more
      pub refined : (d : List ℕ) → Leaders p m m d → Firsts g (k + 1) m d
      refined d ls j h =
          let r = row_at p (key_with g c k) m few s j h in
          let l : Leader p m r.row (get_or d j 0) = subst (λ (x : ℕ). Leader p m r.row (get_or d x 0)) (sym r.is) (ls r.row r.inside) in
          let a = parts p (key_with g c k) m few s l.at l.within in
          let b = parts p (key_with g c k) m few s r.row r.inside in
          let v : get_or d j 0 < m = omega (arith, l.place_is, a.0) in
          let e : key_with g c k (get_or d j 0) ≡ key_with g c k j =
          ap (key_with g c k) (sym l.place_is) ∙ sym a.1 ∙ l.same ∙ b.1 ∙ ap (key_with g c k) (sym r.is) in
          let q = split (get_or d j 0) j v h e in
          record {
            same = more (get_or d j 0) j (class-agree (get_or d j 0) j v h q.0) q.1;
            least = λ i y w.
                let i-in : i < m = omega arith in
                let u = row_at p (key_with g c k) m few s i i-in in
                let t = parts p (key_with g c k) m few s u.row u.inside in
                let ci : get_or c i 0 ≡ get_or c j 0 = agree-class i j i-in h (λ x z. w x (omega arith)) in
                let gi : g i k ≡ g j k = w k (omega arith) in
                let ki : key_with g c k i ≡ key_with g c k j = omega arith in
                let o : get_or d j 0 ≤ place (p u.row) =
                l.least u.row u.inside (t.1 ∙ ap (key_with g c k) (sym u.is) ∙ ki ∙ ap (key_with g c k) r.is ∙ sym b.1) in
                omega (arith, u.is);
          }

-- ---- keys, one by one

pub none-listed : (g : ℕ → ℕ → ℕ) (c : List ℕ) (i : ℕ) (l : List ℤ) → pairs l 0 ≡ keyed g c i 0
unfolding list
none-listed g c i l = refl

pub listed_more : (g : ℕ → ℕ → ℕ) (c : List ℕ) (i j v : ℕ) (before now : List ℤ) → pairs before j ≡ keyed g c i j → pairs now (j + 1) ≡ pairs before j ++ pair v j ∷ [] → v ≡ key_with g c i j → pairs now (j + 1) ≡ keyed g c i (j + 1)
listed_more g c i j v before now e q k =
    q ∙ ap (λ (l : List ℕ). l ++ pair v j ∷ []) e ∙ ap (λ (x : ℕ). keyed g c i j ++ pair x j ∷ []) k ∙ rw (add-one j) (unfold list in refl)

-- the bits of a number cast to an int
pub cast-bits : (v : ℕ) → v < 2 ^ 32 → bits (to_z w32 v) ≡ v
unfolding bits
cast-bits v h = of_z-to_z {w = w32} (record { fits = h })
