-- The table that a delta makes, by one pass over two lists whose keys rise. Assumes nothing.
use Rattle.std.specs.Prelude.{ℕ, suc, ◌<◌, ◌≤◌, ◌^◌, ◌≡◌, Bool, ℤ, ltb, eqb}
use Rattle.std.proofs.Math.Path.{refl}
use Rattle.std.proofs.Common.{sym, ap, ◌∙◌, ⊎_elim, true≢false, arith}
use Rattle.std.proofs.Math.Bool.{cond, true, false}
use Rattle.std.proofs.lemmas.Bool.{false≢true}
use mathlib.Core.List.{List, [], ◌∷◌, ◌++◌}
use Rattle.std.proofs.Math.Option.{Option, some, none}
use borrow.Author.Tests.{lt-ltb, le-ltb, eq-eqb, ne_eqb, ltb-true, ltb-false, eqb-true, eqb-false}
use Rattle.definitions.specs.Tables.{Item, Table, rising, find, is_some}
use Rattle.definitions.specs.Deltas.{rank, keys, signed_rising}
use Rattle.definitions.specs.DeltaMaking.{sums}
use Rattle.definitions.specs.DeltaReading.{elem}
use Rattle.definitions.specs.Applying.{kept}
use Rattle.laws.specs.Tests.{below}
use Rattle.laws.specs.TableWalk.{Rises, rises, rise, rising-less}
use Rattle.laws.specs.TableSettled.{find-nil, find_head, find-tail, find-below, same-found}
use Rattle.laws.specs.TableChanged.{rising-kept, find-kept}
use Rattle.laws.specs.ApplyFound.{item, find-here, own-rise, either, find-append, with_item, find-with_item, rising-with_item}
use Rattle.laws.specs.ApplyJudging.{made_item, updated_table, kept_of, signed-rises}

-- one item x of the base before the updates, where r merges what follows x: the updates below it, then x or its update, then the rest
unfoldable pub merge_one : List ℕ → Item → (List Item → Table) → List Item → Table
merge_one g x r [] = cond (elem x.key g) (r []) (x ∷ r [])
merge_one g x r (u ∷ us) =
    cond (ltb x.key u.key) (cond (elem x.key g) (r (u ∷ us)) (x ∷ r (u ∷ us)))
    (cond (eqb x.key u.key) (item u.key (sums (some x.values) u.values) ∷ r us) (u ∷ merge_one g x r us))

-- the base without the deleted keys, and the updates, both in unsigned order, merged
unfoldable pub merged : List ℕ → Table → List Item → Table
merged g [] = λ us. us
merged g (x ∷ b) = merge_one g x (merged g b)

-- ---- by steps

-- the key comes before all updates
abbrev pub Ahead : ℕ → List Item → Type 0
Ahead k [] = Unit {0}
Ahead k (u ∷ us) = k < u.key

module _ (g : List ℕ) (x : Item) (b : Table) where
  -- an item of the base before all updates
  pub merged-item : (us : List Item) → Ahead x.key us → merged g (x ∷ b) us ≡ kept g (x ∷ []) ++ merged g b us
  unfolding merged merge_one kept
  merged-item [] a = go (elem x.key g)
    where
      go : (p : Bool) → cond p (merged g b []) (x ∷ merged g b []) ≡ cond p [] (x ∷ []) ++ merged g b []
      go true = refl
      go false = refl
  merged-item (u ∷ us) a = rw (lt-ltb x.key u.key a) (go (elem x.key g))
    where
      go : (p : Bool) → cond p (merged g b (u ∷ us)) (x ∷ merged g b (u ∷ us)) ≡ cond p [] (x ∷ []) ++ merged g b (u ∷ us)
      go true = refl
      go false = refl

  -- an update of the base's first item
  pub merged-both : (u : Item) (us : List Item) → x.key ≡ u.key → merged g (x ∷ b) (u ∷ us) ≡ item u.key (sums (some x.values) u.values) ∷ merged g b us
  unfolding merged merge_one
  merged-both u us e = rw (le-ltb x.key u.key (omega arith), eq-eqb x.key u.key e)

  -- an update below it
  pub merged-below : (u : Item) (us : List Item) → u.key < x.key → merged g (x ∷ b) (u ∷ us) ≡ u ∷ merged g (x ∷ b) us
  unfolding merged merge_one
  merged-below u us l = rw (le-ltb x.key u.key (omega arith), ne_eqb x.key u.key (λ e. omega arith))

-- behind the base only updates are left
pub merged-none : (g : List ℕ) (us : List Item) → merged g [] us ≡ us
unfolding merged
merged-none g us = refl

-- ---- what is found when all updates are in

-- the base's data with an update's differences or, without an update, what is there
abbrev pub updated_by : Option (List ℤ) → Option (List ℤ) → Option (List ℤ) → Option (List ℤ)
updated_by (some v) o p = some (sums o v)
updated_by none o p = p

-- keys below the next rank come no more
no_more : (low j : ℕ) (us : List Item) → signed_rising low (keys us) ≡ true → rank j < low → find j us ≡ none
no_more low j [] e m = find-nil j
no_more low j (u ∷ us) e m =
    let s = signed-rises low u.key (keys us) e in
    find-tail j u us (λ q. omega (arith, ap rank q, s.from)) ∙ no_more (suc (rank u.key)) j us s.rest (omega (arith, s.from))

find-updated : (low j : ℕ) (b : Table) (us : List Item) (t : Table) → signed_rising low (keys us) ≡ true → find j (updated_table b us t) ≡ updated_by (find j us) (find j b) (find j t)
unfolding updated_table
find-updated low j b [] t e = rw (find-nil j)
find-updated low j b (u ∷ us) t e =
    let s = signed-rises low u.key (keys us) e in
    find-updated (suc (rank u.key)) j b us (with_item (made_item b u) t) s.rest
    ∙ rw (find-with_item j (made_item b u) t) (go (eqb u.key j) refl s.rest)
  where
    go : (p : Bool) → eqb u.key j ≡ p → signed_rising (suc (rank u.key)) (keys us) ≡ true
        → updated_by (find j us) (find j b) (cond p (some (sums (find u.key b) u.values)) (find j t)) ≡ updated_by (find j (u ∷ us)) (find j b) (find j t)
    go true q s =
        let k : u.key ≡ j = eqb-true u.key j q in
        rw (no_more (suc (rank u.key)) j us s (omega (arith, ap rank k)), find-here j u us k, k)
    go false q s = rw (find-tail j u us (eqb-false u.key j q))

rising-updated : (low : ℕ) (b : Table) (us : List Item) (t : Table) → signed_rising low (keys us) ≡ true → rising 0 t ≡ true → rising 0 (updated_table b us t) ≡ true
unfolding updated_table
rising-updated low b [] t e r = r
rising-updated low b (u ∷ us) t e r =
    let s = signed-rises low u.key (keys us) e in
    rising-updated (suc (rank u.key)) b us (with_item (made_item b u) t) s.rest (rising-with_item 0 (made_item b u) t r (omega arith) s.whole)

-- ---- what is found in the merged lists

-- of each key a table has the updated data, or else what the base keeps
abbrev Found : List ℕ → Table → List Item → Table → Type 0
Found g b us m = (j : ℕ) → find j m ≡ updated_by (find j us) (find j b) (kept_of g b j)

flat : (h : Bool) → ◌≡◌ {A = Option (List ℤ)} (cond h none none) none
flat true = refl
flat false = refl

found_none : (g : List ℕ) (us : List Item) → Found g [] us us
found_none g us j = rw (find-nil j, flat (elem j g)) (same (find j us))
  where
    same : (o : Option (List ℤ)) → o ≡ updated_by o none none
    same (some v) = refl
    same none = refl

module _ (g : List ℕ) (x : Item) (b : Table) (lo : ℕ) (rb : rising lo (x ∷ b) ≡ true) where
  s : Rises lo x b
  s = rises lo x b rb

  -- x itself, before all updates
  passed : (us m : Table) (low : ℕ) → rising low us ≡ true → x.key < low → Found g b us m → Found g (x ∷ b) us (cond (elem x.key g) m (x ∷ m))
  passed us m low ru l h j = go (eqb x.key j) refl
    where
      at_head : (p q : Bool) → p ≡ q → x.key ≡ j → find j m ≡ none → find j (cond p m (x ∷ m)) ≡ cond q none (some x.values)
      at_head true true e k hm = hm
      at_head true false e k hm = absurd (true≢false e)
      at_head false true e k hm = absurd (false≢true e)
      at_head false false e k hm = find-here j x m k

      beside : (p : Bool) → (x.key ≡ j → ⊥) → find j (cond p m (x ∷ m)) ≡ find j m
      beside true n = refl
      beside false n = find-tail j x m n

      go : (p : Bool) → eqb x.key j ≡ p → find j (cond (elem x.key g) m (x ∷ m)) ≡ updated_by (find j us) (find j (x ∷ b)) (kept_of g (x ∷ b) j)
      go true q =
          let k : x.key ≡ j = eqb-true x.key j q in
          let nu : find j us ≡ none = find-below low j us ru (omega arith) in
          let nb : find j b ≡ none = find-below (suc x.key) j b s.rest (omega arith) in
          let hm : find j m ≡ none = h j ∙ rw (nu, nb) (flat (elem j g)) in
          rw (nu, find-here j x b k) (at_head (elem x.key g) (elem j g) (ap (λ (i : ℕ). elem i g) k) k hm)
      go false q =
          let n : x.key ≡ j → ⊥ = eqb-false x.key j q in
          beside (elem x.key g) n ∙ (h j ∙ rw (find-tail j x b n))

  -- an update of x
  hit : (u : Item) (us m : Table) → rising (suc u.key) us ≡ true → x.key ≡ u.key → Found g b us m → Found g (x ∷ b) (u ∷ us) (item u.key (sums (some x.values) u.values) ∷ m)
  hit u us m ru k h j = go (eqb u.key j) refl
    where
      go : (p : Bool) → eqb u.key j ≡ p → find j (item u.key (sums (some x.values) u.values) ∷ m) ≡ updated_by (find j (u ∷ us)) (find j (x ∷ b)) (kept_of g (x ∷ b) j)
      go true q =
          let i : u.key ≡ j = eqb-true u.key j q in
          rw (find-here j u us i, find-here j x b (k ∙ i)) (find-here j (item u.key (sums (some x.values) u.values)) m i)
      go false q =
          let n : u.key ≡ j → ⊥ = eqb-false u.key j q in
          let n' : x.key ≡ j → ⊥ = λ e. n (sym k ∙ e) in
          find-tail j (item u.key (sums (some x.values) u.values)) m n ∙ (h j ∙ rw (find-tail j u us n, find-tail j x b n'))

  -- an update below x
  miss : (u : Item) (us m : Table) → rising (suc u.key) us ≡ true → u.key < x.key → Found g (x ∷ b) us m → Found g (x ∷ b) (u ∷ us) (u ∷ m)
  miss u us m ru l h j = go (eqb u.key j) refl
    where
      go : (p : Bool) → eqb u.key j ≡ p → find j (u ∷ m) ≡ updated_by (find j (u ∷ us)) (find j (x ∷ b)) (kept_of g (x ∷ b) j)
      go true q =
          let i : u.key ≡ j = eqb-true u.key j q in
          let nb : find j (x ∷ b) ≡ none = find-below x.key j (x ∷ b) (own-rise lo x b rb) (omega arith) in
          rw (find-here j u us i, nb) (find-here j u m i)
      go false q =
          let n : u.key ≡ j → ⊥ = eqb-false u.key j q in
          find-tail j u m n ∙ (h j ∙ rw (find-tail j u us n))

  found-one : (r : List Item → Table) (low : ℕ) (us : List Item) → rising low us ≡ true
      → ((l : ℕ) (vs : List Item) → rising l vs ≡ true → Found g b vs (r vs)) → Found g (x ∷ b) us (merge_one g x r us)
  unfolding merge_one
  found-one r low [] ru h = passed [] (r []) (suc x.key) (unfold rising in refl) (omega arith) (h low [] ru)
  found-one r low (u ∷ us) ru h = go (ltb x.key u.key) (eqb x.key u.key) refl refl (found-one r (suc u.key) us (rises low u us ru).rest h)
    where
      q : Rises low u us
      q = rises low u us ru

      go : (c d : Bool) → ltb x.key u.key ≡ c → eqb x.key u.key ≡ d → Found g (x ∷ b) us (merge_one g x r us)
          → Found g (x ∷ b) (u ∷ us) (cond c (cond (elem x.key g) (r (u ∷ us)) (x ∷ r (u ∷ us))) (cond d (item u.key (sums (some x.values) u.values) ∷ r us) (u ∷ merge_one g x r us)))
      go true d e f i = passed (u ∷ us) (r (u ∷ us)) u.key (own-rise low u us ru) (ltb-true x.key u.key e) (h low (u ∷ us) ru)
      go false true e f i = hit u us (r us) q.rest (eqb-true x.key u.key f) (h (suc u.key) us q.rest)
      go false false e f i =
          let n : x.key ≡ u.key → ⊥ = eqb-false x.key u.key f in
          miss u us (merge_one g x r us) q.rest (omega (arith, ltb-false x.key u.key e, n)) i

find-merged : (g : List ℕ) (lo : ℕ) (b : Table) → rising lo b ≡ true → (low : ℕ) (us : List Item) → rising low us ≡ true → Found g b us (merged g b us)
unfolding merged
find-merged g lo [] rb low us ru = found_none g us
find-merged g lo (x ∷ b) rb low us ru =
    found-one g x b lo rb (merged g b) low us ru (find-merged g (suc x.key) b (rises lo x b rb).rest)

-- ---- they rise

rising-one : (g : List ℕ) (x : Item) (r : List Item → Table) (lo low : ℕ) (us : List Item) → lo ≤ x.key → lo ≤ low → x.key < 2 ^ 32 → rising low us ≡ true
    → ((l k : ℕ) (vs : List Item) → rising l vs ≡ true → k ≤ suc x.key → k ≤ l → rising k (r vs) ≡ true) → rising lo (merge_one g x r us) ≡ true
unfolding merge_one
rising-one g x r lo low [] a c z ru h = go (elem x.key g)
  where
    nil : rising (suc x.key) [] ≡ true
    nil = unfold rising in refl

    go : (p : Bool) → rising lo (cond p (r []) (x ∷ r [])) ≡ true
    go true = h (suc x.key) lo [] nil (omega arith) (omega arith)
    go false = rise lo x (r []) (record { from = a; whole = z; rest = h (suc x.key) (suc x.key) [] nil (omega arith) (omega arith) })
rising-one g x r lo low (u ∷ us) a c z ru h = go (ltb x.key u.key) (eqb x.key u.key) refl refl (elem x.key g)
    (λ m. rising-one g x r (suc u.key) (suc u.key) us m (omega arith) z (rises low u us ru).rest h)
  where
    q : Rises low u us
    q = rises low u us ru

    go : (c d : Bool) → ltb x.key u.key ≡ c → eqb x.key u.key ≡ d → (p : Bool) → (suc u.key ≤ x.key → rising (suc u.key) (merge_one g x r us) ≡ true)
        → rising lo (cond c (cond p (r (u ∷ us)) (x ∷ r (u ∷ us))) (cond d (item u.key (sums (some x.values) u.values) ∷ r us) (u ∷ merge_one g x r us))) ≡ true
    go true d e f true i = h u.key lo (u ∷ us) (own-rise low u us ru) (omega arith) (omega (arith, q.from))
    go true d e f false i = rise lo x (r (u ∷ us)) (record { from = a; whole = z; rest = h u.key (suc x.key) (u ∷ us) (own-rise low u us ru) (omega arith) (ltb-true x.key u.key e) })
    go false true e f p i =
        let k : x.key ≡ u.key = eqb-true x.key u.key f in
        rise lo (item u.key (sums (some x.values) u.values)) (r us) (record { from = omega (arith, q.from); whole = q.whole; rest = h (suc u.key) (suc u.key) us q.rest (omega arith) (omega arith) })
    go false false e f p i =
        let n : x.key ≡ u.key → ⊥ = eqb-false x.key u.key f in
        rise lo u (merge_one g x r us) (record { from = omega (arith, q.from); whole = q.whole; rest = i (omega (arith, ltb-false x.key u.key e, n)) })

rising-merged : (g : List ℕ) (b : Table) (lo low k : ℕ) (us : List Item) → rising lo b ≡ true → rising low us ≡ true → k ≤ lo → k ≤ low → rising k (merged g b us) ≡ true
unfolding merged
rising-merged g [] lo low k us rb ru p q = rising-less k low us q ru
rising-merged g (x ∷ b) lo low k us rb ru p q =
    let s = rises lo x b rb in
    rising-one g x (merged g b) k low us (omega (arith, s.from)) q s.whole ru (λ l j vs rv m n. rising-merged g b (suc x.key) l j vs s.rest rv m n)

-- ---- two halves: keys below some number, and the others

-- nothing is found from mid on
pub record Lower (mid : ℕ) (t : Table) : Type 0 where
  pub up : rising 0 t ≡ true
  pub none_above : (j : ℕ) → mid ≤ j → find j t ≡ none

rising-append : (low mid : ℕ) (t u : Table) → rising low t ≡ true → ((j : ℕ) → mid ≤ j → find j t ≡ none) → rising mid u ≡ true → low ≤ mid → rising low (t ++ u) ≡ true
rising-append low mid [] u rt h ru l = rising-less low mid u l ru
rising-append low mid (x ∷ t) u rt h ru l =
    let r = rises low x t rt in
    rise low x (t ++ u) (record { from = r.from; whole = r.whole; rest = rising-append (suc x.key) mid t u r.rest (λ j m. sym (find-tail j x t (λ q. omega (arith, before))) ∙ h j m) ru (omega (arith, before)) })
  where
    before : x.key < mid
    before = ⊎_elim
        (λ (l : x.key < mid). l)
        (λ (l : mid ≤ x.key). absurd (true≢false (sym (ap is_some (find_head x t)) ∙ ap is_some (h x.key l))))
        (below x.key mid)

module _ (g : List ℕ) (mid : ℕ) (b₁ b₂ u₁ u₂ : Table) (hb₁ : Lower mid b₁) (hb₂ : rising mid b₂ ≡ true) (hu₁ : Lower mid u₁) (hu₂ : rising mid u₂ ≡ true) where
  abbrev M : Table
  M = merged g b₁ u₁ ++ merged g b₂ u₂

  found₁ : Found g b₁ u₁ (merged g b₁ u₁)
  found₁ = find-merged g 0 b₁ hb₁.up 0 u₁ hu₁.up

  found₂ : Found g b₂ u₂ (merged g b₂ u₂)
  found₂ = find-merged g mid b₂ hb₂ mid u₂ hu₂

  none₁ : (j : ℕ) → mid ≤ j → find j (merged g b₁ u₁) ≡ none
  none₁ j l = found₁ j ∙ rw (hu₁.none_above j l, hb₁.none_above j l) (flat (elem j g))

  none₂ : (j : ℕ) → j < mid → find j (merged g b₂ u₂) ≡ none
  none₂ j l = found₂ j ∙ rw (find-below mid j u₂ hu₂ l, find-below mid j b₂ hb₂ l) (flat (elem j g))

  halves-rise : rising 0 M ≡ true
  halves-rise =
      rising-append 0 mid (merged g b₁ u₁) (merged g b₂ u₂) (rising-merged g b₁ 0 0 0 u₁ hb₁.up hu₁.up (omega arith) (omega arith)) none₁
      (rising-merged g b₂ mid mid mid u₂ hb₂ hu₂ (omega arith) (omega arith)) (omega arith)

  either-none : (o : Option (List ℤ)) → either o none ≡ o
  either-none (some v) = refl
  either-none none = refl

  find-halves : Found g (b₁ ++ b₂) (u₂ ++ u₁) M
  find-halves j = find-append j (merged g b₁ u₁) (merged g b₂ u₂) ∙ ⊎_elim (λ (l : j < mid). lower l) (λ (l : mid ≤ j). upper l) (below j mid)
    where
      Goal : Type 0
      Goal = either (find j (merged g b₁ u₁)) (find j (merged g b₂ u₂)) ≡ updated_by (find j (u₂ ++ u₁)) (find j (b₁ ++ b₂)) (kept_of g (b₁ ++ b₂) j)

      lower : j < mid → Goal
      lower l =
          let fu : find j (u₂ ++ u₁) ≡ find j u₁ = find-append j u₂ u₁ ∙ rw (find-below mid j u₂ hu₂ l) in
          let fb : find j (b₁ ++ b₂) ≡ find j b₁ = find-append j b₁ b₂ ∙ rw (find-below mid j b₂ hb₂ l) (either-none (find j b₁)) in
          rw (none₂ j l, fu, fb, either-none (find j (merged g b₁ u₁))) (found₁ j)

      upper : mid ≤ j → Goal
      upper l =
          let fu : find j (u₂ ++ u₁) ≡ find j u₂ = find-append j u₂ u₁ ∙ rw (hu₁.none_above j l) (either-none (find j u₂)) in
          let fb : find j (b₁ ++ b₂) ≡ find j b₂ = find-append j b₁ b₂ ∙ rw (hb₁.none_above j l) in
          rw (none₁ j l, fu, fb) (found₂ j)

  -- the updates one by one, in signed order, give what the two passes give
  pub merges : signed_rising 0 (keys (u₂ ++ u₁)) ≡ true → rising 0 (b₁ ++ b₂) ≡ true → updated_table (b₁ ++ b₂) (u₂ ++ u₁) (kept g (b₁ ++ b₂)) ≡ M
  merges e rb =
      same-found 0 (updated_table (b₁ ++ b₂) (u₂ ++ u₁) (kept g (b₁ ++ b₂))) M (rising-updated 0 (b₁ ++ b₂) (u₂ ++ u₁) (kept g (b₁ ++ b₂)) e (rising-kept 0 g (b₁ ++ b₂) rb)) halves-rise
      (λ j. find-updated 0 j (b₁ ++ b₂) (u₂ ++ u₁) (kept g (b₁ ++ b₂)) e ∙ rw (find-kept j g (b₁ ++ b₂)) (sym (find-halves j)))
