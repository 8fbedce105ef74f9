-- What the sorted list of keys says about the table: a repeated key, the refusal that ended the list, or the index. Assumes nothing.
use mathlib.Core.Path.{◌≡◌, refl, sym, ap, subst, ◌∙◌}
use mathlib.Core.Bool.{Bool, true, false, not, ◌&&◌, true≢false, false≢true}
use mathlib.Core.List.{List, [], ◌∷◌, map}
use mathlib.Core.Logic.{⊎_elim}
use Prim.Native.Nat.{ℕ, zero, suc, ◌≤◌, ◌<◌}
use native.Mathlib.Nat.{eq-or-lt_of_le}
use native.Mathlib.Omega.{arith}
use borrow.Author.Tests.{ne_eqb, ltb-true}
use lib.Dec.{ltb}
use lib.IntN.{ℤ}
use lib.ListN.{length, get_or, take, get_or-append}
use lib.Seq.{get_or-take, get_or_at}
use Rattle.definitions.specs.Refusals.{invalid_offset, duplicate_key, too_many_items, too_long_snap}
use Rattle.definitions.specs.Outcome.{return, refuse}
use Rattle.definitions.specs.Tables.{edge, ends, key_at, list}
use Rattle.definitions.specs.TableReading.{read_items}
use Rattle.laws.specs.TableShape.{both}
use Rattle.laws.specs.TableForm.{length-list}
use Rattle.format.specs.Numbers.{number}
use Rattle.format.specs.declared.Error.{Error}
use Rattle.sorting.specs.Sort.{sort}
use Rattle.sorting.specs.Pairs.{key, place, has_key, pair_at, pairs, keys_above, keys_rise}
use Rattle.std.specs.Prelude.{Result, Ok, Err}
use Rattle.table_reading.specs.Reading.{Fine, numbered, Ending, all, not-at-zero, ends-badly, too_many, too_long, Listing, Indexed, AllPlaced, picked}
use Rattle.table_reading.proofs.Picking.{Keyed}
use Rattle.table_reading.proofs.Sorted.{to_the_end, sorted, table, keyed, length-sorted, takes, told, read-sorted, rise_one, step, add-dup, add-full, add-long}

module _ (a : List ℤ) (n len : ℕ) where
  -- ---- a repeated key

  twice-at : (c : ℕ) → Fine a n len c → keys_rise (sorted a c) ≡ false → read_items a c ≡ refuse duplicate_key
  twice-at c x r = read-sorted a n len c x ∙ ap (told a n len c) r

  -- the last key may be one of the two
  twice-last : (c : ℕ) → Fine a n len c → c < n → ends a c ≡ true → keys_rise (sorted a (suc c)) ≡ false → read_items a n ≡ refuse duplicate_key
  twice-last c x l e r = go (keys_rise (sorted a c)) (has_key (key_at a c) (sorted a c)) refl refl (sym (rise_one a n len c x e) ∙ r)
    where
      go : (b h : Bool) → keys_rise (sorted a c) ≡ b → has_key (key_at a c) (sorted a c) ≡ h → (keys_rise (sorted a c) && not (has_key (key_at a c) (sorted a c))) ≡ false → read_items a n ≡ refuse duplicate_key
      go false h p q f = to_the_end a duplicate_key c n (omega arith) (twice-at c x p)
      go true true p q f =
          to_the_end a duplicate_key (suc c) n l
          (step a n len c x e (table a c) (read-sorted a n len c x ∙ ap (told a n len c) p) ∙ add-dup a n len c x e q)
      go true false p q f = absurd (true≢false (rw (p, q) at f))

  none-twice : keys_rise (sorted a 0) ≡ true
  unfolding numbered list sort keys_rise
  none-twice = refl

  pub twice : (c : ℕ) (p : Result (Unit {0}) Error) → Ending a n len c p → keys_rise (sorted a c) ≡ false → read_items a n ≡ refuse duplicate_key
  twice c p (all x) r = twice-at n x r
  twice c p (not-at-zero h) r = absurd (true≢false (sym none-twice ∙ r))
  twice c p (ends-badly x l e) r = to_the_end a duplicate_key c n (omega arith) (twice-at c x r)
  twice c p (too_many {c = d} x l e h) r = twice-last d x l e r
  twice c p (too_long {c = d} x l e h k) r = twice-last d x l e r

  -- ---- the refusal that ended the list

  last-new : (c : ℕ) → Fine a n len c → ends a c ≡ true → keys_rise (sorted a (suc c)) ≡ true → (keys_rise (sorted a c) ≡ true) × (has_key (key_at a c) (sorted a c) ≡ false)
  last-new c x e r = go (keys_rise (sorted a c)) (has_key (key_at a c) (sorted a c)) refl refl (sym (rise_one a n len c x e) ∙ r)
    where
      go : (b h : Bool) → keys_rise (sorted a c) ≡ b → has_key (key_at a c) (sorted a c) ≡ h → (keys_rise (sorted a c) && not (has_key (key_at a c) (sorted a c))) ≡ true → (keys_rise (sorted a c) ≡ true) × (has_key (key_at a c) (sorted a c) ≡ false)
      go false h p q f = absurd (false≢true (rw p at f))
      go true true p q f = absurd (false≢true (rw (p, q) at f))
      go true false p q f = (p, q)

  read-so-far : (c : ℕ) → Fine a n len c → keys_rise (sorted a c) ≡ true → read_items a c ≡ return (table a c)
  read-so-far c x r = read-sorted a n len c x ∙ ap (told a n len c) r

  bad-end : (c : ℕ) → Fine a n len c → ends a c ≡ false → keys_rise (sorted a c) ≡ true → read_items a (suc c) ≡ refuse invalid_offset
  unfolding read_items
  bad-end c x e r = rw (read-so-far c x r, e)

  pub refused : (c : ℕ) (e : Error) → Ending a n len c (Err e) → keys_rise (sorted a c) ≡ true → read_items a n ≡ refuse (number e)
  refused c f (not-at-zero h) r = to_the_end a invalid_offset 0 n (omega arith) (unfold read_items in rw (ne_eqb (edge a 0) 0 h))
  refused c f (ends-badly x l e) r = to_the_end a invalid_offset (suc c) n l (bad-end c x e r)
  refused c f (too_many {c = d} x l e h) r =
      let q = last-new d x e r in
      to_the_end a too_many_items (suc d) n l (step a n len d x e (table a d) (read-so-far d x q.0) ∙ add-full a n len d x e q.1 h)
  refused c f (too_long {c = d} x l e h k) r =
      let q = last-new d x e r in
      to_the_end a too_long_snap (suc d) n l (step a n len d x e (table a d) (read-so-far d x q.0) ∙ add-long a n len d x e q.1 h k)

-- ---- the index

get_or-places : (l : List ℕ) (j : ℕ) → j < length l → get_or (map place l) j 0 ≡ place (get_or l j 0)
get_or-places [] j h = absurd (omega arith)
get_or-places (x ∷ l) zero h = refl
get_or-places (x ∷ l) (suc j) h = get_or-places l j (omega arith)

above_at : (k : ℕ) (l : List ℕ) → keys_above k l ≡ true → (j : ℕ) → j < length l → k < key (get_or l j 0)
unfolding keys_above
above_at k [] e j h = absurd (omega arith)
above_at k (x ∷ l) e zero h = ltb-true k (key x) (both (ltb k (key x)) _ e).0
above_at k (x ∷ l) e (suc j) h =
    let p = both (ltb k (key x)) _ e in
    let q : k < key x = ltb-true k (key x) p.0 in
    omega (arith, above_at (key x) l p.1 j (omega arith))

above-rise : (k : ℕ) (l : List ℕ) → keys_above k l ≡ true → (i j : ℕ) → i < j → j < length l → key (get_or l i 0) < key (get_or l j 0)
unfolding keys_above
above-rise k [] e i j h m = absurd (omega arith)
above-rise k (x ∷ l) e zero zero h m = absurd (omega arith)
above-rise k (x ∷ l) e zero (suc j) h m = above_at (key x) l (both (ltb k (key x)) _ e).1 j (omega arith)
above-rise k (x ∷ l) e (suc i) zero h m = absurd (omega arith)
above-rise k (x ∷ l) e (suc i) (suc j) h m = above-rise (key x) l (both (ltb k (key x)) _ e).1 i j (omega arith) (omega arith)

rise-at : (l : List ℕ) → keys_rise l ≡ true → (i j : ℕ) → i < j → j < length l → key (get_or l i 0) < key (get_or l j 0)
unfolding keys_rise
rise-at [] e i j h m = absurd (omega arith)
rise-at (x ∷ l) e zero zero h m = absurd (omega arith)
rise-at (x ∷ l) e zero (suc j) h m = above_at (key x) l e j (omega arith)
rise-at (x ∷ l) e (suc i) zero h m = absurd (omega arith)
rise-at (x ∷ l) e (suc i) (suc j) h m = above-rise (key x) l e i j (omega arith) (omega arith)

keyed-at : (a : List ℤ) (c : ℕ) (l : List ℕ) → Keyed a c l → (j : ℕ) → j < length l → (key (get_or l j 0) ≡ key_at a (place (get_or l j 0))) × (place (get_or l j 0) < c)
keyed-at a c [] k j h = absurd (omega arith)
keyed-at a c (x ∷ l) k zero h = (k.0, k.1)
keyed-at a c (x ∷ l) k (suc j) h = keyed-at a c l k.2 j (omega arith)

module _ (a : List ℤ) (n len : ℕ) (index : List ℕ) (x : Fine a n len n) (r : keys_rise (sorted a n) ≡ true) (t : take n index ≡ map place (sorted a n)) (long : length index ≡ 1024) where
  entry : (j : ℕ) → j < n → get_or index j 0 ≡ place (get_or (sorted a n) j 0)
  entry j h =
      sym (get_or-take n index j 0 h) ∙ ap (λ (l : List ℕ). get_or l j 0) t
      ∙ get_or-places (sorted a n) j (omega (arith, length-sorted a n))

  keyed-entry : (j : ℕ) → j < n → (key (get_or (sorted a n) j 0) ≡ key_at a (place (get_or (sorted a n) j 0))) × (place (get_or (sorted a n) j 0) < n)
  keyed-entry j h = keyed-at a n (sorted a n) (keyed a n (omega (arith, x.few))) j (omega (arith, length-sorted a n))

  entry_key : (j : ℕ) → j < n → key_at a (get_or index j 0) ≡ key (get_or (sorted a n) j 0)
  entry_key j h = ap (key_at a) (entry j h) ∙ sym (keyed-entry j h).0

  pub indexed : Indexed a n len index n
  indexed =
      record {
        ints = x.ints;
        some = omega arith;
        few = x.few;
        long = long;
        first = x.first;
        well = x.well;
        whole = x.whole;
        within = λ j h. omega (arith, entry j h, (keyed-entry j h).1);
        rise = λ j k h m. omega (arith, entry_key j (omega arith), entry_key k m, rise-at (sorted a n) r j k h (omega (arith, length-sorted a n)));
        takes = ap (λ (l : List ℕ). length (Rattle.definitions.specs.Tables.body (picked a l))) t ∙ takes a n len n x;
        short = x.short;
        read = read-sorted a n len n x ∙ ap (told a n len n) r ∙ ap (λ (l : List ℕ). return (picked a l)) (sym t);
      }

-- ---- by the sorted list

get_or-list : (f : ℕ → ℕ) (n j : ℕ) → j < n → get_or (list f n) j 0 ≡ f j
unfolding list
get_or-list f zero j h = absurd (omega arith)
get_or-list f (suc n) j h =
    ⊎_elim
    (λ (s : j ≡ n). get_or_at (list f n) (f n) [] 0 j (length-list f n ∙ sym s) ∙ ap f (sym s))
    (λ (s : j < n). get_or-append (list f n) (f n ∷ []) 0 j (omega (arith, length-list f n)) ∙ get_or-list f n j s)
    (eq-or-lt_of_le (omega arith))

all-fine : (a : List ℤ) (n len c : ℕ) (p : Result (Unit {0}) Error) → p ≡ Ok tt → Ending a n len c p → (c ≡ n) × Fine a n len n
all-fine a n len c p q (all x) = (refl, x)
all-fine a n len c p q (not-at-zero h) = let z : ◌≡◌ {A = ℕ} 0 1 = cc in absurd (omega arith)
all-fine a n len c p q (ends-badly x l e) = let z : ◌≡◌ {A = ℕ} 0 1 = cc in absurd (omega arith)
all-fine a n len c p q (too_many x l e h) = let z : ◌≡◌ {A = ℕ} 0 1 = cc in absurd (omega arith)
all-fine a n len c p q (too_long x l e h k) = let z : ◌≡◌ {A = ℕ} 0 1 = cc in absurd (omega arith)

module _ (a : List ℤ) (n len c : ℕ) (before keys : List ℤ) (s : pairs keys c ≡ sort (pairs before c)) where
  is_sorted : (p : Result (Unit {0}) Error) → Listing a n len before c p → pairs keys c ≡ sorted a c
  is_sorted p l = s ∙ ap sort l.keys-are

  pub twice-listed : (p : Result (Unit {0}) Error) → Listing a n len before c p → keys_rise (pairs keys c) ≡ false → read_items a n ≡ refuse duplicate_key
  twice-listed p l r = twice a n len c p l.ending (ap keys_rise (sym (is_sorted p l)) ∙ r)

  pub listed-refused : (p : Result (Unit {0}) Error) (e : Error) → p ≡ Err e → Listing a n len before c p → keys_rise (pairs keys c) ≡ true → read_items a n ≡ refuse (number e)
  listed-refused p e q l r =
      refused a n len c e (subst (Ending a n len c) q l.ending) (ap keys_rise (sym (is_sorted p l)) ∙ r)

  module _ (p : Result (Unit {0}) Error) (q : p ≡ Ok tt) (l : Listing a n len before c p) where
    fine : Fine a n len n
    fine = (all-fine a n len c p q l.ending).1

    pub all_listed : c ≡ n
    all_listed = (all-fine a n len c p q l.ending).0

    pub few-listed : n ≤ 1024
    few-listed = fine.few

    all-sorted : pairs keys n ≡ sorted a n
    all-sorted = subst (λ (k : ℕ). pairs keys k ≡ sorted a k) all_listed (is_sorted p l)

    pub places-small : (j : ℕ) → j < n → place (pair_at keys j) < 65536
    places-small j h =
        let e : pair_at keys j ≡ get_or (sorted a n) j 0 = sym (get_or-list (pair_at keys) n j h) ∙ ap (λ (t : List ℕ). get_or t j 0) all-sorted in
        let k = keyed-at a n (sorted a n) (keyed a n (omega (arith, fine.few))) j (omega (arith, length-sorted a n)) in
        omega (arith, ap place e, k.1, fine.few)

    pub all_placed : (index : List ℕ) → keys_rise (pairs keys c) ≡ true → take n index ≡ map place (pairs keys n) → length index ≡ 1024 → AllPlaced a n len index (Ok tt)
    all_placed index r t long =
        let rise : keys_rise (sorted a n) ≡ true = subst (λ (k : ℕ). keys_rise (sorted a k) ≡ true) all_listed (ap keys_rise (sym (is_sorted p l)) ∙ r) in
        AllPlaced.all (indexed a n len index fine rise (t ∙ ap (map place) all-sorted) long)
