-- The steps that write an item leave the written form of the table with the item. Assumes nothing.
use Prim.Native.Nat.{ℕ, ◌+◌, ◌-◌, ◌*◌, ◌<◌, ◌≤◌}
use mathlib.Core.Path.{◌≡◌, refl, sym, ap, ap₂, ◌∙◌}
use mathlib.Core.Bool.{Bool}
use mathlib.Core.List.{List, ◌∷◌, ◌++◌}
use native.Mathlib.Omega.{arith}
use lib.IntN.{ℤ, pos}
use lib.ListN.{length, take, drop, length-append, length-take, length-drop, take-append-drop}
use lib.Seq.{drop-drop}
use Rattle.definitions.specs.Ints.{from_bits}
use Rattle.definitions.specs.Areas.{lay}
use Rattle.definitions.specs.Tables.{Item, Table, body, offsets, written, insert, item_at, items, start, nat}
use Rattle.laws.specs.AreaLaws.{lay-append}
use Rattle.laws.specs.TableShape.{start_first, start-least, start-within}
use Rattle.laws.specs.TableForm.{length-list, length-offsets, length-body, length-form, length-written, body-append, restores}
use Rattle.ints.specs.Copies.{shifted}
use Rattle.table_adding.specs.Adding.{Room}
use Rattle.table_adding.proofs.Inserting.{before, behind, parted, inserted, offset-within, length-with, length-body-with, length-written-with, written-parts, written-with}
use Rattle.table_adding.proofs.Cuts.{Cut, Steps, raised-part, leaves}

module _ (a : List ℤ) (n ints k p : ℕ) (v : List ℤ) (r : Room a n ints k p (length v)) where
  abbrev d : ℕ
  d = length v

  -- the items before the place, and those from it on
  abbrev t : Table
  t = before a n p

  abbrev u : Table
  u = behind a n p

  -- the added item
  abbrev x : Item
  x = record { key = k; values = v }

  -- where the item begins
  pub begins : (2 + n ≤ start a p) × (start a p ≤ ints)
  begins =
      let h = r.new.held in
      (omega (arith, start-least a h.shape p, h.count-is), omega (arith, start-within a h.shape p r.new.place.within, r.takes))

  length-t : length t ≡ p
  length-t = length-list _ p

  length-u : p + length u ≡ n
  length-u = omega (arith, length-list (λ i. item_at a (p + i)) (n - p), r.new.place.within, r.new.held.count-is)

  length-body-t : 2 + n + length (body t) ≡ start a p
  length-body-t =
      let h = r.new.held in
      omega (arith, length-body a h.shape p r.new.place.within, start_first a h.shape, h.count-is)

  -- the table and what follows it
  whole : a ≡ written (t ++ u) ++ drop ints a
  whole =
      restores a r.new.held.shape
      ∙ ap₂ (λ (s : Table) (m : ℕ). written s ++ drop m a) (parted a n k p r.new) (sym r.takes)

  length_whole : length (written (t ++ u)) ≡ ints
  length_whole = sym (ap (λ (s : Table). length (written s)) (parted a n k p r.new)) ∙ (length-form a r.new.held.shape ∙ sym r.takes)

  length-bodies : 2 + n + length (body t) + length (body u) ≡ ints
  length-bodies =
      omega (arith, length_whole, length-written (t ++ u), length-append t u, ap length (body-append t u), length-append (body t) (body u), length-t, length-u)

  behind-table : drop ints a ≡ take (d + 2) (drop ints a) ++ drop (ints + (d + 2)) a
  behind-table = sym (take-append-drop (d + 2) (drop ints a)) ∙ ap (λ (m : List ℤ). take (d + 2) (drop ints a) ++ m) (drop-drop (d + 2) ints a)

  module _ (from : ℕ) (at : from ≡ start a p) where
    -- the area, cut where the item begins
    unfoldable cut : Cut a n p from ints d
    cut = record {
      s₀ = pos (4 * length (body (t ++ u)));
      s₁ = pos (length (t ++ u));
      O₁ = offsets 0 t;
      O₂ = offsets (4 * length (body t)) u;
      B₁ = body t;
      B₂ = body u;
      J = take (d + 2) (drop ints a);
      R = drop (ints + (d + 2)) a;
      is = whole ∙ (ap (λ (m : List ℤ). written (t ++ u) ++ m) behind-table ∙ written-parts t u _);
      O₁-long = length-offsets 0 t ∙ length-t;
      O₂-long = omega (arith, length-offsets (4 * length (body t)) u, length-u);
      B₁-long = omega (arith, length-body-t);
      B₂-long = omega (arith, length-bodies, length-body-t);
      J-long = simp (length-take, length-drop) (omega (arith, r.fits));
    }

    -- the raised ints are offsets within the data
    pub small : (l₁ l₂ : List ℤ) → l₁ ≡ shifted a from ints (d + 1 + 1) → l₂ ≡ shifted l₁ (2 + p) from 1
        → (i : ℕ) → i < length (take (3 + n - (3 + p)) (drop (3 + p) l₂)) → nat (take (3 + n - (3 + p)) (drop (3 + p) l₂)) i ≤ 65536
    unfolding cut
    small l₁ l₂ e f i l =
        let is = raised-part a n p from ints d cut l₁ l₂ e f in
        rw is (omega (arith, offset-within (4 * length (body t)) u i (omega (arith, ap length is)), length-bodies, r.short))

    -- the area after all steps
    pub wrote : (l₁ l₂ m l₃ f l₄ l₅ : List ℤ) (b : Bool)
        → Steps a n p from ints d v (4 * (d + 1)) (pos (4 * (from - (2 + n)))) (from_bits k) (pos (4 * (ints - (2 + n) + (d + 1)))) (pos (n + 1)) l₁ l₂ m l₃ f l₄ l₅ b
        → l₅ ≡ lay (written (insert x (items a))) a
    unfolding cut
    wrote l₁ l₂ m l₃ f l₄ l₅ b s =
        let R = drop (ints + (d + 2)) a in
        let long : length (written (t ++ (x ∷ u))) ≡ ints + (d + 2) = omega (arith, length-written-with t u x, length_whole) in
        let y : 4 * (ints - (2 + n) + (d + 1)) ≡ 4 * length (body (t ++ (x ∷ u))) = omega (arith, length-body-with t u x, ap length (body-append t u), length-append (body t) (body u), length-bodies) in
        let z : n + 1 ≡ length (t ++ (x ∷ u)) = omega (arith, length-with t u x, length-append t u, length-t, length-u) in
        let o : 4 * (from - (2 + n)) ≡ 4 * length (body t) = omega (arith, length-body-t) in
        let laid : lay (written (insert x (items a))) a ≡ written (t ++ (x ∷ u)) ++ R = rw (inserted a n k p r.new x refl, lay-append (written (t ++ (x ∷ u))) a (omega (arith, r.fits)), long) in
        leaves a n p from ints d cut v _ _ _ _ _ l₁ l₂ m l₃ f l₄ l₅ b refl s
        ∙ rw (y, z, o, laid) (sym (written-with t u x R))
