-- Updates in an area, one after the other. Assumes nothing.
use mathlib.Core.Path.{◌≡◌, sym, ap, ◌∙◌}
use mathlib.Core.List.{List, [], ◌∷◌, ◌++◌, append_assoc}
use Prim.Native.Nat.{ℕ, ◌+◌, ◌/◌, ◌%◌, ◌≤◌, ◌<◌}
use native.Mathlib.Omega.{arith}
use lib.IntN.{ℤ, pos}
use lib.ListN.{length, drop, get_or, length-append, length-drop}
use lib.Seq.{get_or-drop, drop-drop, drop_at}
use Rattle.definitions.specs.Tables.{Item, nat, num}
use Rattle.definitions.specs.Deltas.{update_ints, updates_ints}
use Rattle.laws.specs.DeltaSize.{update-written, length-update}
use Rattle.delta_any_order.specs.Fronts.{Laid}

-- the first of some updates
first : (area : List ℤ) (at : ℕ) (x : Item) (l : List Item) (rest : List ℤ) → drop at area ≡ updates_ints [] (x ∷ l) ++ rest → drop at area ≡ pos (x.key / 65536) ∷ pos (x.key % 65536) ∷ pos (length x.values) ∷ x.values ++ (updates_ints [] l ++ rest)
unfolding updates_ints
first area at x l rest s = s ∙ rw (update-written x) (append_assoc (pos (x.key / 65536) ∷ pos (x.key % 65536) ∷ pos (length x.values) ∷ x.values) (updates_ints [] l) rest)

module _ {area : List ℤ} {at n end : ℕ} where
  -- none is left
  pub laid_none : Laid area at n end → n ≤ 0 → at ≡ end
  unfolding updates_ints
  laid_none h l = go h.items (omega (arith, h.count)) h.ends
    where
      go : (items : List Item) → length items ≤ 0 → at + length (updates_ints [] items) ≡ end → at ≡ end
      go [] l e = omega arith
      go (x ∷ items) l e = absurd (omega arith)

  -- there is one
  pub laid-room : Laid area at n end → 0 < n → at + 2 < length area
  laid-room h l = go h.items h.rest h.stands (omega (arith, h.count))
    where
      go : (items : List Item) (rest : List ℤ) → drop at area ≡ updates_ints [] items ++ rest → 0 < length items → at + 2 < length area
      go [] rest s m = absurd (omega arith)
      go (x ∷ items) rest s m = omega (arith, ap length (first area at x items rest s), length-drop at area)

  -- the others
  pub laid-turn : (m : ℕ) → n ≡ m + 1 → Laid area at n end → Laid area (at + (3 + nat area (at + 2))) m end
  unfolding updates_ints num nat
  laid-turn m l h = go h.items h.rest h.stands h.count h.ends
    where
      go : (items : List Item) (rest : List ℤ) → drop at area ≡ updates_ints [] items ++ rest → length items ≡ n → at + length (updates_ints [] items) ≡ end → Laid area (at + (3 + nat area (at + 2))) m end
      go [] rest s c e = absurd (omega arith)
      go (x ∷ items) rest s c e =
          let f = first area at x items rest s in
          let size_is : nat area (at + 2) ≡ length x.values = ap num (sym (get_or-drop at area 2 (pos 0)) ∙ ap (λ (m : List ℤ). get_or m 2 (pos 0)) f) in
          record {
            items = items;
            rest = rest;
            stands = ap (λ (m : ℕ). drop (at + (3 + m)) area) size_is ∙ (sym (drop-drop (3 + length x.values) at area) ∙ (ap (drop (3 + length x.values)) f ∙ drop_at (pos (x.key / 65536) ∷ pos (x.key % 65536) ∷ pos (length x.values) ∷ x.values) (updates_ints [] items ++ rest) (3 + length x.values) (omega arith)));
            count = omega arith;
            ends = omega (arith, size_is, length-append (update_ints [] x) (updates_ints [] items), length-update x);
          }
