-- The items of an area from one place to another, and the ints written for them. Assumes nothing.
use Prim.Native.Nat.{ℕ, zero, suc, ◌+◌, ◌-◌, ◌<◌, ◌≤◌, ◌^◌}
use mathlib.Core.Path.{◌≡◌, refl, sym, ap, ap₂, ◌∙◌}
use mathlib.Core.Bool.{Bool, true, false, cond, not}
use mathlib.Core.List.{List, [], ◌∷◌, ◌++◌, map, append_assoc}
use mathlib.Core.Option.{some, none}
use native.Mathlib.Numerals.{add-one}
use native.Mathlib.Omega.{arith}
use lib.IntN.{ℤ, pos}
use lib.ListN.{length, take, drop}
use lib.Seq.{take_all, drop-cons, take_at, drop_at}
use borrow.Author.Tests.{le-ltb, lt-ltb}
use Rattle.definitions.specs.Ints.{from_bits}
use Rattle.definitions.specs.Tables.{Item, Table, list, items, item_at, key_at, values_at, count, find, is_some, walk}
use Rattle.definitions.specs.Deltas.{keys, updates_ints, delta_ints, written_delta}
use Rattle.definitions.specs.DeltaMaking.{agree, lacking, changes, alike, first_clash, delta_from}
use Rattle.laws.specs.ListLaws.{get_or-list}
use Rattle.laws.specs.TableShape.{both}
use Rattle.laws.specs.TableForm.{length-list, length-items}
use Rattle.laws.specs.TableFind.{Place}
use Rattle.laws.specs.TableWalk.{list-add, walk-list, length-walk}
use Rattle.laws.specs.DeltaMakingLaws.{lacking-append, walk-lacking, changes-append, walk-changes}
use Rattle.laws.specs.DeltaSize.{updates_ints-append, length-changes, length_keys_of}
use Rattle.table.specs.Held.{Held}
use Rattle.delta_making.specs.Parts.{part, deleted_ints, change_ints, changes_ints, key_below}

-- ---- the items

pub part_end : (i to : ℕ) (t : Table) → to ≤ i → part i to t ≡ []
unfolding part
part_end i to t l = let e : to - i ≡ 0 = omega arith in rw e

module _ (a : List ℤ) (n : ℕ) (h : Held a n) where
  pub length-is : length (items a) ≡ n
  length-is = length-items a h.shape ∙ sym h.count-is

  drop-step : (i : ℕ) → i < n → drop i (items a) ≡ item_at a i ∷ drop (i + 1) (items a)
  unfolding items
  drop-step i l =
      drop-cons (list (item_at a) (count a)) i (item_at a 0) (omega (arith, length-list (item_at a) (count a), h.count-is))
      ∙ rw (get_or-list (item_at a) (count a) i (item_at a 0) (omega (arith, h.count-is)), add-one i)

  -- the first item, and the rest
  pub part_step : (i to : ℕ) → i < to → to ≤ n → part i to (items a) ≡ item_at a i ∷ part (i + 1) to (items a)
  unfolding part
  part_step i to l m =
      let e : to - i ≡ suc (to - (i + 1)) = omega arith in
      rw (e, drop-step i (omega arith))

  pub part-all : part 0 n (items a) ≡ items a
  unfolding part
  part-all = take_all (n - 0) (items a) (omega (arith, length-is))

  -- in walk order: those from the place of 2^31 on, then those before it
  pub walk-parts : (m : ℕ) → Place a (2 ^ 31) m → walk (items a) ≡ part m n (items a) ++ part 0 m (items a)
  unfolding part items
  walk-parts m q =
      let f = item_at a in
      let j = n - m in
      let late : ℕ → Item = λ i. f (m + i) in
      let c : count a ≡ m + j = omega (arith, h.count-is, q.within) in
      let s : list f (count a) ≡ list f m ++ list late j = ap (list f) c ∙ list-add f m j in
      let d : drop m (list f (count a)) ≡ list late j = ap (drop m) s ∙ drop_at (list f m) (list late j) m (length-list f m) in
      let u : take j (drop m (list f (count a))) ≡ list late j = ap (take j) d ∙ take_all j (list late j) (omega (arith, length-list late j)) in
      let z : m - 0 ≡ m = omega arith in
      let v : take (m - 0) (list f (count a)) ≡ list f m = rw z (ap (take m) s ∙ take_at (list f m) (list late j) m (length-list f m)) in
      ap (λ (k : ℕ). walk (list f k)) c
      ∙ (walk-list f m j q.below (λ i l. q.above (m + i) (omega arith) (omega arith))
      ∙ sym (ap₂ (λ (x y : Table). x ++ y) u v))

-- ---- what is written for the base's items

module _ (t : Table) where
  pub deleted-end : (i to : ℕ) (b : Table) → to ≤ i → deleted_ints t (part i to b) ≡ []
  deleted-end i to b l = rw (part_end i to b l) (unfold deleted_ints lacking in refl)

  module _ (a : List ℤ) (n : ℕ) (h : Held a n) (i to : ℕ) (l : i < to) (m : to ≤ n) where
    -- an item that the target has
    pub deleted-skip : is_some (find (key_at a i) t) ≡ true → deleted_ints t (part i to (items a)) ≡ deleted_ints t (part (i + 1) to (items a))
    deleted-skip e = rw (part_step a n h i to l m) (unfold deleted_ints lacking in rw e)

    -- an item that the target lacks
    pub deleted-step : is_some (find (key_at a i) t) ≡ false → deleted_ints t (part i to (items a)) ≡ (from_bits (key_at a i) ∷ []) ++ deleted_ints t (part (i + 1) to (items a))
    deleted-step e = rw (part_step a n h i to l m) (unfold deleted_ints lacking in rw e)

    pub lacking-step : length (lacking t (part i to (items a))) ≡ cond (not (is_some (find (key_at a i) t))) 1 0 + length (lacking t (part (i + 1) to (items a)))
    lacking-step =
        ap (λ (b : Table). length (lacking t b)) (part_step a n h i to l m)
        ∙ (unfold lacking in go (is_some (find (key_at a i) t)) (lacking t (part (i + 1) to (items a))))
      where
        go : (p : Bool) (b : Table) → length (cond p b (item_at a i ∷ b)) ≡ cond (not p) 1 0 + length b
        go true b = omega arith
        go false b = omega arith

  pub lacking-end : (i to : ℕ) (b : Table) → to ≤ i → length (lacking t (part i to b)) ≡ 0
  lacking-end i to b l = rw (part_end i to b l) (unfold lacking in refl)

-- ---- what is written for the target's items

alike-drop : (b t : Table) (i : ℕ) → alike b t ≡ true → alike b (drop i t) ≡ true
unfolding alike
alike-drop b t zero e = e
alike-drop b [] (suc i) e = e
alike-drop b (x ∷ t) (suc i) e = alike-drop b t i (both (agree (find x.key b) x.values) _ e).1

module _ (b : Table) where
  pub changes-end : (i to : ℕ) (t : Table) → to ≤ i → changes_ints b (part i to t) ≡ []
  changes-end i to t l = rw (part_end i to t l) (unfold changes_ints changes updates_ints in refl)

  pub clash-end : (i to : ℕ) (t : Table) → to ≤ i → first_clash b (part i to t) ≡ none
  clash-end i to t l = rw (part_end i to t l) (unfold first_clash in refl)

  module _ (a : List ℤ) (n : ℕ) (h : Held a n) (i to : ℕ) (l : i < to) (m : to ≤ n) where
    pub changes-step : changes_ints b (part i to (items a)) ≡ change_ints b (item_at a i) ++ changes_ints b (part (i + 1) to (items a))
    changes-step = rw (part_step a n h i to l m) (unfold changes_ints changes updates_ints in refl)

    -- an item that agrees with the base's
    pub clash-step : agree (find (key_at a i) b) (values_at a i) ≡ true → first_clash b (part i to (items a)) ≡ first_clash b (part (i + 1) to (items a))
    clash-step e = rw (part_step a n h i to l m) (unfold first_clash in rw e)

    -- an item that does not
    pub clash-here : agree (find (key_at a i) b) (values_at a i) ≡ false → first_clash b (part i to (items a)) ≡ some (key_at a i)
    clash-here e = rw (part_step a n h i to l m) (unfold first_clash in rw e)

  -- if all items agree in length, each is as long as the base's
  pub alike_at : (a : List ℤ) (n : ℕ) (h : Held a n) (i : ℕ) → i < n → alike b (items a) ≡ true → agree (find (key_at a i) b) (values_at a i) ≡ true
  alike_at a n h i l e =
      first (item_at a i) (drop (i + 1) (items a)) (rw (drop-step a n h i l) at (alike-drop b (items a) i e))
    where
      first : (x : Item) (t : Table) → alike b (x ∷ t) ≡ true → agree (find x.key b) x.values ≡ true
      first x t q = unfold alike in (both (agree (find x.key b) x.values) (alike b t) q).0

-- ---- the key of an item

pub below-is : (t : List ℤ) (n r : ℕ) → r < n → key_below t n r ≡ some (key_at t r)
below-is t n r l = rw (lt-ltb r n l)

pub below_none : (t : List ℤ) (n r : ℕ) → n ≤ r → key_below t n r ≡ none
below_none t n r l = rw (le-ltb r n l)

-- ---- the whole delta

deleted-append : (t b c : Table) → deleted_ints t (b ++ c) ≡ deleted_ints t b ++ deleted_ints t c
unfolding deleted_ints
deleted-append t b c = rw (lacking-append t b c) (go (lacking t b) (lacking t c))
  where
    go : (u v : Table) → map from_bits (keys (u ++ v)) ≡ map from_bits (keys u) ++ map from_bits (keys v)
    go [] v = refl
    go (x ∷ u) v = ap (λ (l : List ℤ). from_bits x.key ∷ l) (go u v)

changes-parts : (b t u : Table) → changes_ints b (t ++ u) ≡ changes_ints b t ++ changes_ints b u
unfolding changes_ints
changes-parts b t u = rw (changes-append b t u) (updates_ints-append [] (changes b t) (changes b u))

in_order : (b t : Table) → written_delta (delta_from b t) ≡ pos (length (lacking t b)) ∷ pos (length t) ∷ pos 0 ∷ deleted_ints t (walk b) ++ changes_ints b (walk t)
unfolding delta_ints delta_from deleted_ints changes_ints
in_order b t =
    rw (length_keys_of (walk (lacking t b)), length-walk (lacking t b), length-walk (changes b t), length-changes b t, walk-lacking t b, walk-changes b t)

module _ (b t : List ℤ) (nb nt m q : ℕ) (hb : Held b nb) (ht : Held t nt) (pm : Place b (2 ^ 31) m) (pq : Place t (2 ^ 31) q) where
  -- the three counts, then four parts
  pub delta-parts : written_delta (delta_from (items b) (items t))
      ≡ (pos (length (lacking (items t) (items b))) ∷ pos nt ∷ pos 0 ∷ [])
      ++ (deleted_ints (items t) (part m nb (items b)) ++ (deleted_ints (items t) (part 0 m (items b)) ++ (changes_ints (items b) (part q nt (items t)) ++ changes_ints (items b) (part 0 q (items t)))))
  delta-parts =
      in_order (items b) (items t)
      ∙ rw (walk-parts b nb hb m pm, walk-parts t nt ht q pq, deleted-append (items t) (part m nb (items b)) (part 0 m (items b)), changes-parts (items b) (part q nt (items t)) (part 0 q (items t)), length-is t nt ht)
      (ap (λ (l : List ℤ). pos (length (lacking (items t) (items b))) ∷ pos nt ∷ pos 0 ∷ l) (append_assoc (deleted_ints (items t) (part m nb (items b))) _ _))
