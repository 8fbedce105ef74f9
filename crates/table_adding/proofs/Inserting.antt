-- A table with one more item: the parts before and after the item, the length and the written form. Assumes nothing.
use Prim.Native.Nat.{ℕ, zero, suc, ◌+◌, ◌-◌, ◌*◌, ◌<◌, ◌≤◌}
use mathlib.Core.Path.{◌≡◌, refl, sym, ap, ap₂, ◌∙◌}
use mathlib.Core.Logic.{◌≢◌}
use mathlib.Core.List.{List, [], ◌∷◌, ◌++◌, map, append_assoc, append-nil}
use native.Mathlib.Nat.{add-zero}
use native.Mathlib.Omega.{arith}
use lib.IntN.{ℤ, pos}
use lib.ListN.{length, get_or, length-append, get_or-append}
use lib.Seq.{append_snoc}
use borrow.Author.Tests.{lt-ltb, le-ltb}
use Rattle.definitions.specs.Ints.{from_bits}
use Rattle.definitions.specs.Tables.{Item, Table, body, offsets, written, insert, list, item_at, items, key_at, num, nat}
use Rattle.laws.specs.TableForm.{length-list, length-written, body-append, offsets-append}
use Rattle.laws.specs.TableRoundTrip.{no_item}
use Rattle.table_adding.specs.Adding.{raised, New}

-- ---- inserting in place

list-split : (f : ℕ → Item) (p m : ℕ) → list f (p + m) ≡ list f p ++ list (λ i. f (p + i)) m
unfolding list
list-split f p zero = rw add-zero (sym (append-nil (list f p)))
list-split f p (suc m) =
    let e : p + suc m ≡ suc (p + m) = omega arith in
    rw (e, list-split f p m) (append_assoc (list f p) (list (λ i. f (p + i)) m) (f (p + m) ∷ []))

list-first : (f : ℕ → Item) (m : ℕ) → 0 < m → get_or (list f m) 0 no_item ≡ f 0
unfolding list
list-first f zero l = absurd (omega arith)
list-first f (suc zero) l = refl
list-first f (suc (suc m)) l =
    get_or-append (list f (suc m)) (f (suc m) ∷ []) no_item 0 (omega (arith, length-list f (suc m)))
    ∙ list-first f (suc m) (omega arith)

module _ (x : Item) where
  -- before greater keys
  insert-before : (u : Table) → (0 < length u → x.key < (get_or u 0 no_item).key) → insert x u ≡ x ∷ u
  unfolding insert
  insert-before [] h = refl
  insert-before (y ∷ u) h = rw (lt-ltb x.key y.key (h (omega arith)))

  -- after lesser keys
  insert-behind : (f : ℕ → Item) (p : ℕ) (u : Table) → ((i : ℕ) → i < p → (f i).key < x.key) → insert x (list f p ++ u) ≡ list f p ++ insert x u
  unfolding insert list
  insert-behind f zero u h = refl
  insert-behind f (suc p) u h =
      rw (append_snoc (list f p) (f p) u, insert-behind f p (f p ∷ u) (λ i l. h i (omega arith)), le-ltb x.key (f p).key (omega (arith, h p (omega arith))))
      (sym (append_snoc (list f p) (f p) (insert x u)))

module _ (a : List ℤ) (n p : ℕ) where
  -- the items before a place, and those from it on
  abbrev pub before : Table
  before = list (item_at a) p

  abbrev pub behind : Table
  behind = list (λ i. item_at a (p + i)) (n - p)

module _ (a : List ℤ) (n k p : ℕ) (w : New a n k p) where
  pub parted : items a ≡ before a n p ++ behind a n p
  unfolding items
  parted = ap (list (item_at a)) (omega (arith, w.held.count-is, w.place.within)) ∙ list-split (item_at a) p (n - p)

  pub inserted : (x : Item) → x.key ≡ k → insert x (items a) ≡ before a n p ++ (x ∷ behind a n p)
  inserted x e =
      let up : 0 < length (behind a n p) → x.key < (get_or (behind a n p) 0 no_item).key = λ l.
      let m : 0 < n - p = omega (arith, length-list (λ i. item_at a (p + i)) (n - p)) in
      let f : (get_or (behind a n p) 0 no_item).key ≡ key_at a p = ap (λ (y : Item). y.key) (list-first (λ i. item_at a (p + i)) (n - p) m ∙ ap (item_at a) (add-zero p)) in
      let g : key_at a p ≢ k = w.fresh (omega arith) in
      omega (arith, w.place.above p (omega arith) (omega (arith, w.held.count-is))) in
      ap (insert x) parted
      ∙ (insert-behind x (item_at a) p (behind a n p) (λ i l. omega (arith, w.place.below i l))
      ∙ ap (λ (t : Table). before a n p ++ t) (insert-before x (behind a n p) up))

-- ---- the written form

-- offsets that start further up
raise-offsets : (g o : ℕ) (t : Table) → map (raised g) (offsets o t) ≡ offsets (o + g) t
unfolding offsets num
raise-offsets g o [] = refl
raise-offsets g o (x ∷ t) =
    let e : o + 4 * suc (length x.values) + g ≡ o + g + 4 * suc (length x.values) = omega arith in
    ap (λ (m : List ℤ). pos (o + g) ∷ m) (raise-offsets g (o + 4 * suc (length x.values)) t ∙ ap (λ (n : ℕ). offsets n t) e)

-- no offset is past the data
pub offset-within : (o : ℕ) (t : Table) (i : ℕ) → i < length (offsets o t) → nat (offsets o t) i ≤ o + 4 * length (body t)
unfolding nat num offsets body
offset-within o [] i l = absurd (omega arith)
offset-within o (x ∷ t) zero l = omega arith
offset-within o (x ∷ t) (suc i) l =
    omega (arith, offset-within (o + 4 * suc (length x.values)) t i (omega arith), length-append x.values (body t))

-- the parts of a written table
pub written-parts : (t u : Table) (R : List ℤ) → written (t ++ u) ++ R
    ≡ (pos (4 * length (body (t ++ u))) ∷ pos (length (t ++ u)) ∷ offsets 0 t) ++ ((offsets (4 * length (body t)) u ++ body t) ++ (body u ++ R))
unfolding written
written-parts t u R =
    let z : 0 + 4 * length (body t) ≡ 4 * length (body t) = omega arith in
    let e : offsets 0 (t ++ u) ≡ offsets 0 t ++ offsets (4 * length (body t)) u = offsets-append 0 t u ∙ ap (λ (o : ℕ). offsets 0 t ++ offsets o u) z in
    ap (λ (m : List ℤ). pos (4 * length (body (t ++ u))) ∷ pos (length (t ++ u)) ∷ m)
    (ap₂ (λ (l m : List ℤ). l ++ m ++ R) e (body-append t u) ∙ simp append_assoc)

module _ (t u : Table) (x : Item) where
  body-with : body (t ++ (x ∷ u)) ≡ body t ++ (from_bits x.key ∷ (x.values ++ body u))
  unfolding body
  body-with = body-append t (x ∷ u)

  offsets-with : offsets 0 (t ++ (x ∷ u)) ≡ offsets 0 t ++ (pos (4 * length (body t)) ∷ map (raised (4 * (length x.values + 1))) (offsets (4 * length (body t)) u))
  unfolding offsets
  offsets-with =
      let o = 4 * length (body t) in
      let z : 0 + o ≡ o = omega arith in
      let g : 4 * suc (length x.values) ≡ 4 * (length x.values + 1) = omega arith in
      rw (offsets-append, z, g, raise-offsets)

  -- one more item
  pub length-with : length (t ++ (x ∷ u)) ≡ length (t ++ u) + 1
  length-with = omega (arith, length-append t (x ∷ u), length-append t u)

  pub length-body-with : length (body (t ++ (x ∷ u))) ≡ length (body (t ++ u)) + (length x.values + 1)
  length-body-with =
      rw (body-with, body-append)
      (omega (arith, length-append (body t) (from_bits x.key ∷ (x.values ++ body u)), length-append x.values (body u), length-append (body t) (body u)))

  -- longer by its offset, its key and its data
  pub length-written-with : length (written (t ++ (x ∷ u))) ≡ length (written (t ++ u)) + (length x.values + 2)
  length-written-with = omega (arith, length-written (t ++ (x ∷ u)), length-written (t ++ u), length-with, length-body-with)

  -- the parts with an item between them
  pub written-with : (R : List ℤ) → written (t ++ (x ∷ u)) ++ R
      ≡ pos (4 * length (body (t ++ (x ∷ u)))) ∷ pos (length (t ++ (x ∷ u))) ∷ (offsets 0 t ++ (pos (4 * length (body t)) ∷ (map (raised (4 * (length x.values + 1))) (offsets (4 * length (body t)) u) ++ (body t ++ ((from_bits x.key ∷ x.values) ++ (body u ++ R))))))
  unfolding written
  written-with R =
      ap (λ (m : List ℤ). pos (4 * length (body (t ++ (x ∷ u)))) ∷ pos (length (t ++ (x ∷ u))) ∷ m)
      (ap₂ (λ (l m : List ℤ). l ++ m ++ R) offsets-with body-with ∙ simp append_assoc)
