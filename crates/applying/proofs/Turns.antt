-- One turn of the merge, and one of the search for the updates that are not negative. Assumes nothing.
use Prim.Native.Nat.{ℕ, suc, ◌+◌, ◌-◌, ◌<◌, ◌≤◌, ◌^◌}
use mathlib.Core.Path.{◌≡◌, refl, sym, ap, ◌∙◌}
use mathlib.Core.Bool.{true, false}
use mathlib.Core.Logic.{⊎_elim}
use mathlib.Core.List.{List, [], ◌∷◌, ◌++◌}
use mathlib.Core.Option.{some}
use native.Mathlib.Omega.{arith}
use lib.IntN.{ℤ}
use lib.ListN.{length, length-append}
use borrow.Author.Tests.{eqb-true}
use Rattle.definitions.specs.Ints.{wrapping_add}
use Rattle.definitions.specs.Tables.{Item, Table, body, items, item_at, key_at, values_at, find}
use Rattle.definitions.specs.Deltas.{update_key, update_end, update_at, updates}
use Rattle.definitions.specs.DeltaMaking.{zip_with, agree, alike}
use Rattle.definitions.specs.DeltaReading.{elem}
use Rattle.definitions.specs.Applying.{kept}
use Rattle.laws.specs.Tests.{below}
use Rattle.laws.specs.ZipLaws.{length-zip_with}
use Rattle.laws.specs.TableShape.{both}
use Rattle.laws.specs.TableFind.{present, own-place}
use Rattle.laws.specs.TableForm.{body-append}
use Rattle.laws.specs.DeltaShape.{Update, Updates, first-update, other-updates}
use Rattle.laws.specs.ApplyFound.{item}
use Rattle.laws.specs.ApplyMerge.{Ahead, merged-item, merged-both, merged-below, merged-none}
use Rattle.laws.specs.ApplyHalves.{run, HighBefore, NextLow, high-next}
use Rattle.laws.specs.ApplyWriting.{Room, wrote, wrote_nothing, writes-first, writes-room}
use Rattle.table.specs.Held.{Held}
use Rattle.apply_judging.specs.Judging.{deleted_of}
use Rattle.applying.specs.Merging.{rest_of, Going, Turned}
use Rattle.applying.specs.declared.checked.Merge.{Merge}

-- ---- updates that are not negative

updates-cons : (d : List ℤ) (p left : ℕ) → 0 < left → updates [] d p left ≡ update_at [] d p ∷ updates [] d (update_end [] d p) (left - 1)
unfolding updates
updates-cons d p left l = let e : left ≡ suc (left - 1) = omega arith in ap (updates [] d p) e

updates-none : (d : List ℤ) (p left : ℕ) → left ≤ 0 → updates [] d p left ≡ []
unfolding updates
updates-none d p left l = let e : left ≡ 0 = omega arith in ap (updates [] d p) e

pub next_low : (d : List ℤ) (p left k : ℕ) → 0 < left → k ≡ update_key d p → k < 2 ^ 31 → NextLow (updates [] d p left)
next_low d p left k l e m = rw (updates-cons d p left l) (omega arith)

pub none-low : (d : List ℤ) (p left : ℕ) → left ≤ 0 → NextLow (updates [] d p left)
none-low d p left l = rw (updates-none d p left l) tt

pub high-turn : {d : List ℤ} {from n p left : ℕ} → HighBefore d from n p left → 0 < left → (k next : ℕ) → k ≡ update_key d p → 2 ^ 31 ≤ k → next ≡ update_end [] d p → HighBefore d from n next (left - 1)
high-turn h l k next e m q = high-next h l (omega arith) next q (rw q (other-updates h.lie l))

-- ---- the merge

-- a key before all updates
pub ahead_none : (d : List ℤ) (p left k : ℕ) → left ≤ 0 → Ahead k (updates [] d p left)
ahead_none d p left k l = rw (updates-none d p left l) tt

pub ahead-some : (d : List ℤ) (p left k : ℕ) → 0 < left → k < update_key d p → Ahead k (updates [] d p left)
ahead-some d p left k l m = rw (updates-cons d p left l) m

-- there is room for the first of some items
pub room-front : {n long m w : ℕ} (all t rest : Table) → all ≡ t ++ rest → Room n long m w all → Room n long m w t
room-front all t rest e r =
    let a : length all ≡ length t + length rest = ap length e ∙ length-append t rest in
    let b : length (body all) ≡ length (body t) + length (body rest) = ap (λ (l : Table). length (body l)) e ∙ (ap length (body-append t rest) ∙ length-append (body t) (body rest)) in
    record { few = omega (arith, r.few); behind = r.behind; room = omega (arith, r.room); short = omega (arith, r.short) }

run-cons : (f : ℕ → Item) (i to : ℕ) → i < to → run f i (to - i) ≡ f i ∷ run f (i + 1) (to - (i + 1))
unfolding run
run-cons f i to l = let e : to - i ≡ suc (to - (i + 1)) = omega arith in ap (run f i) e

run_none : (f : ℕ → Item) (i to : ℕ) → to ≤ i → run f i (to - i) ≡ []
unfolding run
run_none f i to l = let e : to - i ≡ 0 = omega arith in ap (run f i) e

-- nothing is left after the last item and the last update
pub nothing_left : (base : List ℤ) (to : ℕ) (delta : List ℤ) (deleted : ℕ) (s : Merge) → to ≤ s.item → s.left ≤ 0 → rest_of base to delta deleted s ≡ []
unfolding rest_of
nothing_left base to delta deleted s l m =
    rw (run_none (item_at base) s.item to l, updates-none delta s.update s.left m) (merged-none (deleted_of delta deleted) [])

-- the item at a place is what is found by its key
find-own : (a : List ℤ) (n i : ℕ) → Held a n → i < n → find (key_at a i) (items a) ≡ some (values_at a i)
find-own a n i h l =
    let c = h.count-is in
    present a h.shape (key_at a i) i (own-place a h.shape (key_at a i) i (omega arith) refl) (omega arith) refl

-- how many ints an item takes after the offsets
long-one : (x : Item) → length (body (x ∷ [])) ≡ 1 + length x.values
unfolding body
long-one x = omega (arith, length-append x.values [])

-- one list is written, the first of what is left
module _ {base : List ℤ} {nb to : ℕ} {delta : List ℤ} {deleted n : ℕ} (out : List ℤ) {s : Merge} (g : Going base nb to delta deleted n (length out) s) where
  turn : (out' : List ℤ) (r : Merge) (t : Table) → rest_of base to delta deleted s ≡ t ++ rest_of base to delta deleted r → out' ≡ wrote n out s.items s.at t → r.items ≡ s.items + length t → r.at ≡ s.at + length (body t)
      → r.item ≤ to → Updates [] delta r.update r.left → alike (items base) (updates [] delta r.update r.left) ≡ true → r.hint ≤ deleted → (to - r.item) + r.left < (to - s.item) + s.left
      → Turned base nb to delta deleted n out s out' r
  turn out' r t e f ei ea l u a hh less =
      let w = writes-first n out s.items s.at (rest_of base to delta deleted s) g.room out' r.items r.at t (rest_of base to delta deleted r) e f ei ea in
      record {
        going = record { item-within = l; to-within = g.to-within; lie = u; same-long = a; hint = hh; room = writes-room w g.room };
        writing = w;
        less = less;
      }

  -- ---- an item of the base before all updates

  module _ (l : s.item < to) (ahead : Ahead (key_at base s.item) (updates [] delta s.update s.left)) where
    abbrev x : Item
    x = item_at base s.item

    passed : (r : Merge) → r.item ≡ s.item + 1 → r.update ≡ s.update → r.left ≡ s.left → rest_of base to delta deleted s ≡ kept (deleted_of delta deleted) (x ∷ []) ++ rest_of base to delta deleted r
    unfolding rest_of
    passed r ei eu el =
        rw (ei, eu, el, run-cons (item_at base) s.item to l)
        (merged-item (deleted_of delta deleted) x (run (item_at base) (s.item + 1) (to - (s.item + 1))) (updates [] delta s.update s.left) ahead)

    -- its key is deleted
    pub item-skipped : (hint : ℕ) → hint ≤ deleted → elem x.key (deleted_of delta deleted) ≡ true
        → Turned base nb to delta deleted n out s out (record { item = s.item + 1; update = s.update; left = s.left; hint = hint; items = s.items; at = s.at })
    item-skipped hint hh e =
        let r : Merge = record { item = s.item + 1; update = s.update; left = s.left; hint = hint; items = s.items; at = s.at } in
        let k : kept (deleted_of delta deleted) (x ∷ []) ≡ [] = unfold kept in rw e in
        turn out r [] (passed r refl refl refl ∙ ap (λ (t : Table). t ++ rest_of base to delta deleted r) k) (sym (wrote_nothing n out s.items s.at)) (omega arith) (unfold body in omega arith) (omega arith) g.lie g.same-long hh (omega arith)

    -- it is not
    is-kept : elem x.key (deleted_of delta deleted) ≡ false → kept (deleted_of delta deleted) (x ∷ []) ≡ x ∷ []
    unfolding kept
    is-kept e = rw e

    -- it is copied
    pub item-copied : (hint size : ℕ) (out' : List ℤ) → hint ≤ deleted → elem x.key (deleted_of delta deleted) ≡ false → size ≡ length x.values → out' ≡ wrote n out s.items s.at (x ∷ [])
        → Turned base nb to delta deleted n out s out' (record { item = s.item + 1; update = s.update; left = s.left; hint = hint; items = s.items + 1; at = s.at + 1 + size })
    item-copied hint size out' hh e es f =
        let r : Merge = record { item = s.item + 1; update = s.update; left = s.left; hint = hint; items = s.items + 1; at = s.at + 1 + size } in
        turn out' r (x ∷ []) (passed r refl refl refl ∙ ap (λ (t : Table). t ++ rest_of base to delta deleted r) (is-kept e)) f (omega arith) (omega (arith, long-one x)) (omega arith) g.lie g.same-long hh (omega arith)

    -- there is room for it
    pub item_room : elem x.key (deleted_of delta deleted) ≡ false → Room n (length out) s.items s.at (x ∷ [])
    item_room e =
        let r : Merge = record { item = s.item + 1; update = s.update; left = s.left; hint = s.hint; items = s.items; at = s.at } in
        room-front (rest_of base to delta deleted s) (x ∷ []) (rest_of base to delta deleted r) (passed r refl refl refl ∙ ap (λ (t : Table). t ++ rest_of base to delta deleted r) (is-kept e)) g.room

  -- ---- an update

  module _ (m : 0 < s.left) where
    abbrev u : Item
    u = update_at [] delta s.update

    -- it lies within the delta
    pub update_here : Update [] delta s.update
    update_here = first-update g.lie m

    -- it is as long as the base's data, and so are those after it
    agrees : (agree (find u.key (items base)) u.values ≡ true) × (alike (items base) (updates [] delta (update_end [] delta s.update) (s.left - 1)) ≡ true)
    unfolding alike
    agrees = both (agree (find u.key (items base)) u.values) _ (rw (updates-cons delta s.update s.left m) at g.same-long)

    -- of the base's next item
    module _ (h : Held base nb) (l : s.item < to) (e : key_at base s.item ≡ update_key delta s.update) where
      pub as_long : length (values_at base s.item) ≡ length u.values
      as_long =
          let f : find u.key (items base) ≡ some (values_at base s.item) = ap (λ (k : ℕ). find k (items base)) (sym e) ∙ find-own base nb s.item h (omega (arith, g.to-within)) in
          eqb-true (length (values_at base s.item)) (length u.values) (rw f at agrees.0)

      abbrev y : Item
      y = item u.key (zip_with wrapping_add (values_at base s.item) u.values)

      both-taken : (r : Merge) → r.item ≡ s.item + 1 → r.update ≡ update_end [] delta s.update → r.left ≡ s.left - 1 → rest_of base to delta deleted s ≡ y ∷ [] ++ rest_of base to delta deleted r
      unfolding rest_of
      both-taken r ei eu el =
          rw (ei, eu, el, run-cons (item_at base) s.item to l, updates-cons delta s.update s.left m)
          (merged-both (deleted_of delta deleted) (item_at base s.item) (run (item_at base) (s.item + 1) (to - (s.item + 1))) u (updates [] delta (update_end [] delta s.update) (s.left - 1)) e)

      pub sums-room : Room n (length out) s.items s.at (y ∷ [])
      sums-room =
          let r : Merge = record { item = s.item + 1; update = update_end [] delta s.update; left = s.left - 1; hint = s.hint; items = s.items; at = s.at } in
          room-front (rest_of base to delta deleted s) (y ∷ []) (rest_of base to delta deleted r) (both-taken r refl refl refl) g.room

      pub sums-turn : (next size : ℕ) (out' : List ℤ) → next ≡ update_end [] delta s.update → size ≡ length (values_at base s.item) → out' ≡ wrote n out s.items s.at (y ∷ [])
          → Turned base nb to delta deleted n out s out' (record { item = s.item + 1; update = next; left = s.left - 1; hint = s.hint; items = s.items + 1; at = s.at + 1 + size })
      sums-turn next size out' en es f =
          let r : Merge = record { item = s.item + 1; update = next; left = s.left - 1; hint = s.hint; items = s.items + 1; at = s.at + 1 + size } in
          turn out' r (y ∷ []) (both-taken r refl en refl) f (omega arith) (omega (arith, long-one y, length-zip_with wrapping_add (values_at base s.item) u.values as_long)) (omega arith) (rw en (other-updates g.lie m)) (rw en agrees.1) g.hint (omega arith)

    -- of a key that the base lacks
    module _ (d : s.item < to → update_key delta s.update < key_at base s.item) where
      update-taken : (r : Merge) → r.item ≡ s.item → r.update ≡ update_end [] delta s.update → r.left ≡ s.left - 1 → rest_of base to delta deleted s ≡ u ∷ [] ++ rest_of base to delta deleted r
      unfolding rest_of
      update-taken r ei eu el =
          rw (ei, eu, el, updates-cons delta s.update s.left m)
          (⊎_elim
          (λ (l : s.item < to).
          rw (run-cons (item_at base) s.item to l)
          (merged-below (deleted_of delta deleted) (item_at base s.item) (run (item_at base) (s.item + 1) (to - (s.item + 1))) u (updates [] delta (update_end [] delta s.update) (s.left - 1)) (d l)))
          (λ (l : to ≤ s.item).
          rw (run_none (item_at base) s.item to l)
          (merged-none (deleted_of delta deleted) (u ∷ updates [] delta (update_end [] delta s.update) (s.left - 1))
          ∙ ap (λ (t : Table). u ∷ t) (sym (merged-none (deleted_of delta deleted) (updates [] delta (update_end [] delta s.update) (s.left - 1))))))
          (below s.item to))

      pub update-room : Room n (length out) s.items s.at (u ∷ [])
      update-room =
          let r : Merge = record { item = s.item; update = update_end [] delta s.update; left = s.left - 1; hint = s.hint; items = s.items; at = s.at } in
          room-front (rest_of base to delta deleted s) (u ∷ []) (rest_of base to delta deleted r) (update-taken r refl refl refl) g.room

      pub update-turn : (next size : ℕ) (out' : List ℤ) → next ≡ update_end [] delta s.update → size ≡ length u.values → out' ≡ wrote n out s.items s.at (u ∷ [])
          → Turned base nb to delta deleted n out s out' (record { item = s.item; update = next; left = s.left - 1; hint = s.hint; items = s.items + 1; at = s.at + 1 + size })
      update-turn next size out' en es f =
          let r : Merge = record { item = s.item; update = next; left = s.left - 1; hint = s.hint; items = s.items + 1; at = s.at + 1 + size } in
          turn out' r (u ∷ []) (update-taken r refl en refl) f (omega arith) (omega (arith, long-one u)) g.item-within (rw en (other-updates g.lie m)) (rw en agrees.1) g.hint (omega arith)
