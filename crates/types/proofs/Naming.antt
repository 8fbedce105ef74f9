-- Kinds named before, by the classes of the items that name them. Assumes nothing.
use mathlib.Core.Path.{◌≡◌, refl, sym, ap, subst, ◌∙◌}
use mathlib.Core.Bool.{Bool, true, false, ◌||◌, false≢true}
use mathlib.Core.List.{List, [], ◌∷◌}
use mathlib.Core.Logic.{⊎_elim}
use Prim.Native.Nat.{ℕ, zero, suc, ◌+◌, ◌*◌, ◌/◌, ◌%◌, ◌≤◌, ◌<◌}
use native.Mathlib.Nat.{eq-or-lt_of_le}
use native.Mathlib.Omega.{arith}
use borrow.Author.Tests.{eq-eqb, ne_eqb, eqb-true}
use lib.Dec.{eqb}
use lib.IntN.{ℤ, pos}
use lib.ListN.{length, get_or, take}
use lib.Seq.{get_or-take, length-take-le}
use Rattle.definitions.specs.Ints.{bits}
use Rattle.definitions.specs.Tables.{Item}
use Rattle.definitions.specs.Types.{same_ints, has_kind}
use Rattle.laws.specs.TableShape.{both}
use Rattle.types.specs.Picks.{values_of, item_of}
use Rattle.types.specs.Kinds.{half, halves, Whole, Firsts}
use Rattle.types.proofs.Classes.{first-le}

-- ---- ints with the same bits, place by place

same_at : (l m : List ℤ) → length l ≡ length m → ((i : ℕ) → i < length l → bits (get_or l i (pos 0)) ≡ bits (get_or m i (pos 0))) → same_ints l m ≡ true
unfolding same_ints
same_at [] [] e h = refl
same_at [] (y ∷ m) e h = absurd (omega arith)
same_at (x ∷ l) [] e h = absurd (omega arith)
same_at (x ∷ l) (y ∷ m) e h = rw (eq-eqb (bits x) (bits y) (h 0 (omega arith))) (same_at l m (omega arith) (λ i k. h (suc i) (omega arith)))

at_same : (l m : List ℤ) → same_ints l m ≡ true → (i : ℕ) → i < length l → bits (get_or l i (pos 0)) ≡ bits (get_or m i (pos 0))
unfolding same_ints
at_same [] m e i h = absurd (omega arith)
at_same (x ∷ l) [] e i h = absurd (false≢true e)
at_same (x ∷ l) (y ∷ m) e zero h = eqb-true (bits x) (bits y) (both (eqb (bits x) (bits y)) (same_ints l m) e).0
at_same (x ∷ l) (y ∷ m) e (suc i) h = at_same l m (both (eqb (bits x) (bits y)) (same_ints l m) e).1 i (omega arith)

-- ---- the halves of an int

higher : (v : List ℤ) (i : ℕ) → half v (2 * i) ≡ bits (get_or v i (pos 0)) / 65536
unfolding half
higher v i =
    let e : 2 * i % 2 ≡ 0 = omega arith in
    let d : 2 * i / 2 ≡ i = omega arith in
    rw (eq-eqb (2 * i % 2) 0 e, d)

lesser : (v : List ℤ) (i : ℕ) → half v (2 * i + 1) ≡ bits (get_or v i (pos 0)) % 65536
unfolding half
lesser v i =
    let e : (2 * i + 1) % 2 ≡ 0 → ⊥ = λ q. omega arith in
    let d : (2 * i + 1) / 2 ≡ i = omega arith in
    rw (ne_eqb ((2 * i + 1) % 2) 0 e, d)

module _ (v w : List ℤ) (lv : 4 ≤ length v) (lw : 4 ≤ length w) where
  pub alike : ((h : ℕ) → h < 8 → half v h ≡ half w h) → same_ints (take 4 v) (take 4 w) ≡ true
  alike e =
      same_at (take 4 v) (take 4 w) (length-take-le 4 v lv ∙ sym (length-take-le 4 w lw)) (λ i l.
      let k : i < 4 = omega (arith, length-take-le 4 v lv) in
      ap bits (get_or-take 4 v i (pos 0) k)
      ∙ omega (arith, higher v i, higher w i, lesser v i, lesser w i, e (2 * i) (omega arith), e (2 * i + 1) (omega arith))
      ∙ ap bits (sym (get_or-take 4 w i (pos 0) k)))

  pub same-halves : same_ints (take 4 v) (take 4 w) ≡ true → (h : ℕ) → h < 8 → half v h ≡ half w h
  unfolding half
  same-halves e h l =
      let k : h / 2 < 4 = omega arith in
      let q : bits (get_or v (h / 2) (pos 0)) ≡ bits (get_or w (h / 2) (pos 0)) =
      ap bits (sym (get_or-take 4 v (h / 2) (pos 0) k)) ∙ at_same (take 4 v) (take 4 w) e (h / 2) (omega (arith, length-take-le 4 v lv)) ∙ ap bits (get_or-take 4 w (h / 2) (pos 0) k) in
      rw q

-- ---- kinds named before item j

abbrev pub kinds_before : (ℕ → Item) → ℕ → List (List ℤ)
kinds_before f zero = []
kinds_before f (suc j) = take 4 (f j).values ∷ kinds_before f j

module _ (f : ℕ → Item) (k : List ℤ) where
  has-not : (j : ℕ) → ((i : ℕ) → i < j → same_ints k (take 4 (f i).values) ≡ true → ⊥) → has_kind k (kinds_before f j) ≡ false
  unfolding has_kind
  has-not zero h = refl
  has-not (suc j) h = go (same_ints k (take 4 (f j).values)) refl (has-not j (λ i l. h i (omega arith)))
    where
      go : (b : Bool) → same_ints k (take 4 (f j).values) ≡ b → has_kind k (kinds_before f j) ≡ false → (b || has_kind k (kinds_before f j)) ≡ false
      go true e r = absurd (h j (omega arith) e)
      go false e r = r

  or-true : (b : Bool) → (b || true) ≡ true
  or-true true = refl
  or-true false = refl

  has : (j i : ℕ) → i < j → same_ints k (take 4 (f i).values) ≡ true → has_kind k (kinds_before f j) ≡ true
  unfolding has_kind
  has zero i h e = absurd (omega arith)
  has (suc j) i h e =
      ⊎_elim
      (λ (q : i ≡ j). rw (subst (λ (x : ℕ). same_ints k (take 4 (f x).values) ≡ true) q e))
      (λ (l : i < j). rw (has j i l e) (or-true (same_ints k (take 4 (f j).values))))
      (eq-or-lt_of_le (omega arith))

module _ (a : List ℤ) (index : List ℕ) (n m : ℕ) (w : Whole a index n m) (c : List ℕ) (fs : Firsts (halves a index) 8 m c) (j : ℕ) (h : j < m) where
  abbrev kind : List ℤ
  kind = take 4 (values_of a index j)

  -- an item that is the first of its class names a new kind
  pub named-first : get_or c j 0 ≡ j → has_kind (take 4 (values_of a index j)) (kinds_before (item_of a index) j) ≡ false
  named-first e =
      has-not (item_of a index) kind j (λ i l s.
      (fs j h).least i (omega arith) (λ x y. sym (same-halves (values_of a index j) (values_of a index i) (w.long j h) (w.long i (omega arith)) s x y)))

  pub named_again : (get_or c j 0 ≡ j → ⊥) → has_kind (take 4 (values_of a index j)) (kinds_before (item_of a index) j) ≡ true
  named_again d =
      let l : get_or c j 0 ≤ j = first-le (halves a index) 8 m c fs j h in
      let k : get_or c j 0 < j = ⊎_elim (λ (q : get_or c j 0 ≡ j). absurd (d q)) (λ (y : get_or c j 0 < j). y) (eq-or-lt_of_le l) in
      has (item_of a index) kind j (get_or c j 0) k
      (alike (values_of a index j) (values_of a index (get_or c j 0)) (w.long j h) (w.long (get_or c j 0) (omega arith)) (λ x y. sym ((fs j h).same x y)))
