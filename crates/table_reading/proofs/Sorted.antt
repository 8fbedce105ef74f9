-- Items in any order, by their sorted keys: the result of reading them one by one. Assumes nothing.
use mathlib.Core.Path.{◌≡◌, refl, sym, ap, subst, ◌∙◌}
use mathlib.Core.Bool.{Bool, true, false, cond, not, ◌&&◌}
use mathlib.Core.List.{List, [], ◌∷◌, map}
use Prim.Native.Nat.{ℕ, zero, suc, ◌+◌, ◌-◌, ◌/◌, ◌%◌, ◌^◌, ◌≤◌, ◌<◌}
use native.Mathlib.Nat.{add-suc, add-zero}
use native.Mathlib.Numerals.{add-one}
use native.Mathlib.Omega.{arith}
use borrow.Author.Tests.{lt-ltb, le-ltb, le-leb, lt-leb, eq-eqb}
use lib.IntN.{ℤ}
use lib.ListN.{length, length-take, length-drop}
use Rattle.definitions.specs.Refusals.{duplicate_key, too_many_items, too_long_snap}
use Rattle.definitions.specs.Outcome.{Outcome, return, refuse, after}
use Rattle.definitions.specs.Warnings.{none}
use Rattle.definitions.specs.Tables.{Item, Table, body, written, count, size, edge, start, ends, key_at, values_at, item_at, find, is_some}
use Rattle.definitions.specs.Tables as Tables
use Rattle.definitions.specs.TableReading.{add_item, read_items}
use Rattle.laws.specs.OutcomeLaws.{after_none}
use Rattle.laws.specs.TableShape.{ends-well}
use Rattle.laws.specs.TableForm.{length-written}
use Rattle.sorting.specs.Sort.{insert, sort}
use Rattle.sorting.specs.Pairs.{pair, key, place, has_key, keys_rise}
use Rattle.sorting.specs.SortLaws.{rises-sort, sort-snoc, length-insert}
use Rattle.sorting.specs.PairLaws.{keys_rise-insert, key-pair, place-pair}
use Rattle.table_reading.specs.Reading.{Fine, numbered}
use Rattle.table_reading.proofs.Picking.{at_places, Keyed, keyed-more, keyed-insert, find-has, insert-new, length-insert-body, length-picked}

-- a refusal stays
stays : (a : List ℤ) (e m k : ℕ) → read_items a m ≡ refuse e → read_items a (m + k) ≡ refuse e
unfolding read_items
stays a e m zero h = rw (add-zero m) h
stays a e m (suc k) h = rw (add-suc m k, stays a e m k h)

pub to_the_end : (a : List ℤ) (e m n : ℕ) → m ≤ n → read_items a m ≡ refuse e → read_items a n ≡ refuse e
to_the_end a e m n l h =
    let q : m + (n - m) ≡ n = omega arith in
    subst (λ (i : ℕ). read_items a i ≡ refuse e) q (stays a e m (n - m) h)

-- ---- adding an item, cause by cause

module _ (i : Item) (u : Table) where
  dup : is_some (find i.key u) ≡ true → add_item i u ≡ refuse duplicate_key
  unfolding add_item
  dup e = rw e

  module _ (e : is_some (find i.key u) ≡ false) where
    full : 1024 ≤ length u → add_item i u ≡ refuse too_many_items
    unfolding add_item
    full h = rw (e, le-ltb (length u) 1024 h)

    module _ (h : length u < 1024) where
      too-big : 16384 < length (written (Tables.insert i u)) → add_item i u ≡ refuse too_long_snap
      unfolding add_item
      too-big k = rw (e, lt-ltb (length u) 1024 h, lt-leb (length (written (Tables.insert i u))) 16384 k)

      fits : length (written (Tables.insert i u)) ≤ 16384 → add_item i u ≡ return (Tables.insert i u)
      unfolding add_item
      fits k = rw (e, lt-ltb (length u) 1024 h, le-leb (length (written (Tables.insert i u))) 16384 k)

-- ---- the sorted keys of the first c items

module _ (a : List ℤ) where
  abbrev pub sorted : ℕ → List ℕ
  sorted c = sort (numbered a c)

  -- the items in the order of their keys
  abbrev pub table : ℕ → Table
  table c = at_places a (sorted c)

  one : ℕ → ℕ
  one c = pair (key_at a c) c

  sorted-one : (c : ℕ) → sorted (suc c) ≡ insert (one c) (sorted c)
  unfolding numbered Tables.list one
  sorted-one c = sort-snoc (numbered a c) (pair (key_at a c) c)

  module _ (c : ℕ) (s : c < 2 ^ 32) where
    key_one : key (one c) ≡ key_at a c
    unfolding one
    key_one = key-pair (key_at a c) c s

    place-one : place (one c) ≡ c
    unfolding one
    place-one = place-pair (key_at a c) c s

    keyed-one : key (one c) ≡ key_at a (place (one c))
    keyed-one = key_one ∙ ap (key_at a) (sym place-one)

  pub keyed : (c : ℕ) → c < 2 ^ 32 → Keyed a c (sorted c)
  keyed zero s = unfold numbered Tables.list sort in tt
  keyed (suc c) s =
      let m : c < 2 ^ 32 = omega arith in
      subst (Keyed a (suc c)) (sym (sorted-one c))
      (keyed-insert a (suc c) (one c) (sorted c) (keyed-one c m) (omega (arith, place-one c m)) (keyed-more a c (sorted c) (keyed c m)))

  pub length-sorted : (c : ℕ) → length (sorted c) ≡ c
  length-sorted zero = unfold numbered Tables.list sort in refl
  length-sorted (suc c) = ap length (sorted-one c) ∙ length-insert (one c) (sorted c) ∙ ap suc (length-sorted c)

  length-places : (l : List ℕ) → length (map place l) ≡ length l
  length-places [] = refl
  length-places (x ∷ l) = ap suc (length-places l)

  pub length-table : (c : ℕ) → length (table c) ≡ c
  length-table c = length-picked a (map place (sorted c)) ∙ length-places (sorted c) ∙ length-sorted c

  -- ---- the items one by one

  module _ (n len : ℕ) where
    pub fine-less : (c : ℕ) → Fine a n len (suc c) → Fine a n len c
    fine-less c x =
        let w = ends-well a c (x.well c (omega arith)) in
        let e : edge a (c + 1) ≡ edge a (suc c) = ap (edge a) (add-one c) in
        record {
          ints = x.ints;
          some = omega (arith, x.some);
          few = omega (arith, x.few);
          first = x.first;
          well = λ i h. x.well i (omega arith);
          whole = λ i h. x.whole i (omega arith);
          short = omega (arith, x.short, w.rises);
        }

    -- edges of items that end correctly are at whole ints
    aligned : (c : ℕ) → Fine a n len c → edge a c % 4 ≡ 0
    aligned zero x = rw x.first
    aligned (suc c) x = ap (λ (k : ℕ). edge a k % 4) (sym (add-one c)) ∙ (ends-well a c (x.well c (omega arith))).aligned

    -- the ints that an item takes
    item-takes : (c : ℕ) → Fine a n len c → ends a c ≡ true → suc (length (values_at a c)) + edge a c / 4 ≡ edge a (c + 1) / 4
    unfolding values_at start
    item-takes c x e =
        let w = ends-well a c e in
        simp (length-take, length-drop)
        (omega (arith, w.rises, w.within, w.aligned, aligned c x, x.ints.size_is, x.ints.room, x.ints.count-is))

    more-takes : (c : ℕ) → Fine a n len c → ends a c ≡ true → length (body (table c)) ≡ edge a c / 4 → length (body (table (suc c))) ≡ edge a (c + 1) / 4
    more-takes c x e t =
        let s : c < 2 ^ 32 = omega (arith, x.few) in
        ap (λ (l : List ℕ). length (body (at_places a l))) (sorted-one c)
        ∙ length-insert-body a (one c) (sorted c)
        ∙ ap (λ (i : ℕ). suc (length (values_at a i)) + length (body (table c))) (place-one c s)
        ∙ omega (arith, t, item-takes c x e)

    pub takes : (c : ℕ) → Fine a n len c → length (body (table c)) ≡ edge a c / 4
    takes zero x = unfold numbered Tables.list sort body in rw x.first
    takes (suc c) x =
        let y = fine-less c x in
        more-takes c y (x.well c (omega arith)) (takes c y) ∙ ap (λ (k : ℕ). edge a k / 4) (add-one c)

    -- a new key among those of the first c items
    module _ (c : ℕ) (x : Fine a n len c) (e : ends a c ≡ true) where
      small : c < 2 ^ 32
      small = omega (arith, x.few)

      found : is_some (find (key_at a c) (table c)) ≡ has_key (key_at a c) (sorted c)
      found = find-has a c (key_at a c) (sorted c) (keyed c small)

      pub rise_one : keys_rise (sorted (suc c)) ≡ (keys_rise (sorted c) && not (has_key (key_at a c) (sorted c)))
      rise_one =
          ap keys_rise (sorted-one c)
          ∙ keys_rise-insert (one c) (sorted c) (rises-sort (numbered a c))
          ∙ ap (λ (k : ℕ). keys_rise (sorted c) && not (has_key k (sorted c))) (key_one c small)

      pub step : (t : Table) → read_items a c ≡ return t → read_items a (suc c) ≡ add_item (item_at a c) t
      unfolding read_items
      step t h = rw (h, e) (after_none (after none (add_item (item_at a c) t)) ∙ after_none (add_item (item_at a c) t))

      module _ (u : has_key (key_at a c) (sorted c) ≡ false) where
        insert-one : Tables.insert (item_at a c) (table c) ≡ table (suc c)
        insert-one =
            ap (λ (i : ℕ). Tables.insert (item_at a i) (table c)) (sym (place-one c small))
            ∙ insert-new a c (one c) (sorted c) (keyed-one c small) (ap (λ (k : ℕ). has_key k (sorted c)) (key_one c small) ∙ u) (keyed c small)
            ∙ ap (at_places a) (sym (sorted-one c))

        now-long : length (written (Tables.insert (item_at a c) (table c))) ≡ 2 + suc c + edge a (c + 1) / 4
        now-long =
            ap (λ (t : Table). length (written t)) insert-one
            ∙ length-written (table (suc c))
            ∙ omega (arith, length-table (suc c), more-takes c x e (takes c x))

        none_found : is_some (find (key_at a c) (table c)) ≡ false
        none_found = found ∙ u

        pub add-full : 1024 ≤ c → add_item (item_at a c) (table c) ≡ refuse too_many_items
        add-full h = full (item_at a c) (table c) none_found (omega (arith, length-table c))

        pub add-long : c < 1024 → 16384 < 2 + suc c + edge a (c + 1) / 4 → add_item (item_at a c) (table c) ≡ refuse too_long_snap
        add-long h k = too-big (item_at a c) (table c) none_found (omega (arith, length-table c)) (omega (arith, now-long))

        add-one-more : c < 1024 → 2 + suc c + edge a (c + 1) / 4 ≤ 16384 → add_item (item_at a c) (table c) ≡ return (table (suc c))
        add-one-more h k = fits (item_at a c) (table c) none_found (omega (arith, length-table c)) (omega (arith, now-long)) ∙ ap return insert-one

      pub add-dup : has_key (key_at a c) (sorted c) ≡ true → add_item (item_at a c) (table c) ≡ refuse duplicate_key
      add-dup u = dup (item_at a c) (table c) (found ∙ u)

    -- the result of reading the first c items, by whether their keys differ
    abbrev pub told : ℕ → Bool → Outcome Table
    told c b = cond b (return (table c)) (refuse duplicate_key)

    read_one : (c : ℕ) (b : Bool) → Fine a n len c → ends a c ≡ true → c < 1024 → 2 + suc c + edge a (c + 1) / 4 ≤ 16384 → read_items a c ≡ told c b → (h : Bool) → has_key (key_at a c) (sorted c) ≡ h → read_items a (suc c) ≡ told (suc c) (b && not h)
    read_one c true x e f s r true u = step c x e (table c) r ∙ add-dup c x e u
    read_one c true x e f s r false u = step c x e (table c) r ∙ add-one-more c x e u f s
    read_one c false x e f s r h u = subst (λ (i : ℕ). read_items a i ≡ refuse duplicate_key) (add-one c) (stays a duplicate_key c 1 r)

    pub read-sorted : (c : ℕ) → Fine a n len c → read_items a c ≡ told c (keys_rise (sorted c))
    read-sorted zero x = unfold numbered Tables.list sort keys_rise read_items in rw (eq-eqb (edge a 0) 0 x.first)
    read-sorted (suc c) x =
        let y = fine-less c x in
        let e = x.well c (omega arith) in
        let k : edge a (c + 1) ≡ edge a (suc c) = ap (edge a) (add-one c) in
        read_one c (keys_rise (sorted c)) y e (omega (arith, x.few)) (omega (arith, x.short)) (read-sorted c y) (has_key (key_at a c) (sorted c)) refl
        ∙ ap (told (suc c)) (sym (rise_one c y e))
