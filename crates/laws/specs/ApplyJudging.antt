-- Applying a delta in two steps: whether it is refused, by counts alone, and the table if it is not. Assumes nothing.
use Rattle.std.specs.Prelude.{ℕ, suc, ◌+◌, ◌<◌, ◌≤◌, ◌^◌, ◌≡◌, refl, Bool, cond, not, List, [], ◌∷◌, ℤ, ltb, leb, eqb}
use Rattle.std.proofs.Common.{sym, ap, ◌∙◌, subst, arith, leb-true, ltb-true, eqb-true, ne_eqb}
use Rattle.std.proofs.Math.Bool.{true, false}
use Rattle.std.proofs.Math.Option.{Option, some, none}
use Rattle.std.proofs.Math.ListN.{length}
use Rattle.definitions.specs.Refusals.{too_long_snap, too_many_items, delta_differing_sizes}
use Rattle.definitions.specs.Warnings.{Counts, UnknownDelete}
use Rattle.definitions.specs.Warnings as Warnings
use Rattle.definitions.specs.Outcome.{Outcome, return, refuse, require, warn_if, after, ◌>>=◌, ◌>>◌}
use Rattle.definitions.specs.Tables.{Item, Table, written, rising, find, is_some, insert}
use Rattle.definitions.specs.Deltas.{Delta, rank, keys, signed_rising}
use Rattle.definitions.specs.DeltaMaking.{agree, sums}
use Rattle.definitions.specs.DeltaReading.{elem}
use Rattle.definitions.specs.Applying.{kept, updated_item, replace, change_item, new_item, apply_update, apply_updates, apply_delta}
use Rattle.laws.specs.TableShape.{both}
use Rattle.laws.specs.TableForm.{length-written}
use Rattle.laws.specs.ZipLaws.{length-sums}
use Rattle.laws.specs.OutcomeLaws.{return-bind}
use Rattle.laws.specs.TableChanged.{rising-kept, find-kept}
use Rattle.laws.specs.ApplyFound.{with_item, find-with_item, rising-with_item, insert-is, replace-is, found_some, found_none, long-new, long-other}

-- ---- the table

-- the item that an update makes from the base's data
abbrev pub made_item : Table → Item → Item
made_item b u = record { key = u.key; values = sums (find u.key b) u.values }

-- a table with all updates, one after the other
unfoldable pub updated_table : Table → List Item → Table → Table
updated_table b [] t = t
updated_table b (u ∷ us) t = updated_table b us (with_item (made_item b u) t)

-- ---- the refusals

-- the number of a refusal, or how many items and ints there are
pub data Judged : Type 0 where
  bad : ℕ → Judged
  good : ℕ → ℕ → Judged

-- one judgement and then the next, which the first one's sizes go into
abbrev pub and_then : Judged → (ℕ → ℕ → Judged) → Judged
and_then (bad r) f = bad r
and_then (good n w) f = f n w

-- what the base keeps of a key
abbrev pub kept_of : List ℕ → Table → ℕ → Option (List ℤ)
kept_of g b k = cond (elem k g) none (find k b)

-- this many items and ints, if the base's data is as long as the differences
abbrev pub judge_length : Bool → ℕ → ℕ → Judged
judge_length same n w = cond same (good n w) (bad delta_differing_sizes)

-- an update of a new key: one item more, with its offset, its key and its data
abbrev pub judge_new : Bool → ℕ → ℕ → ℕ → Judged
judge_new same size n w =
    cond (ltb n 1024)
    (cond (leb (w + (2 + size)) 16384) (judge_length same (n + 1) (w + (2 + size))) (bad too_long_snap))
    (bad too_many_items)

-- one update of a table of n items and w ints
unfoldable pub judge_update : List ℕ → Table → Item → ℕ → ℕ → Judged
judge_update g b u n w =
    cond (is_some (kept_of g b u.key))
    (judge_length (agree (find u.key b) u.values) n w)
    (judge_new (agree (find u.key b) u.values) (length u.values) n w)

-- updates, one after the other
unfoldable pub judge_updates : List ℕ → Table → List Item → ℕ → ℕ → Judged
judge_updates g b [] n w = good n w
judge_updates g b (u ∷ us) n w = and_then (judge_update g b u n w) (judge_updates g b us)

-- a table where nothing is refused
abbrev pub judged_as : Judged → Table → Outcome Table
judged_as (bad r) t = refuse r
judged_as (good n w) t = return t

-- the sizes are those of a table
abbrev pub SizesOf : Judged → Table → Type 0
SizesOf (bad r) t = Unit {0}
SizesOf (good n w) t = (n ≡ length t) × (w ≡ length (written t))

-- ---- keys that rise in signed order are distinct

-- what the order of keys says about the first key and those after it
pub record SignedRises (low k : ℕ) (l : List ℕ) : Type 0 where
  pub from : low ≤ rank k
  pub whole : k < 2 ^ 32
  pub rest : signed_rising (suc (rank k)) l ≡ true

pub signed-rises : (low k : ℕ) (l : List ℕ) → signed_rising low (k ∷ l) ≡ true → SignedRises low k l
unfolding signed_rising
signed-rises low k l e =
    let p = both (leb low (rank k)) _ e in
    let q = both (ltb k (2 ^ 32)) _ p.1 in
    record { from = leb-true _ _ p.0; whole = ltb-true _ _ q.0; rest = q.1 }

-- ---- one update

-- the outcome of an update is its judgement, with the table that it makes
abbrev Turns : List ℕ → Table → Item → Table → Type 0
Turns g b u t =
    (apply_update b u t ≡ judged_as (judge_update g b u (length t) (length (written t))) (with_item (made_item b u) t))
    × SizesOf (judge_update g b u (length t) (length (written t))) (with_item (made_item b u) t)

-- the outcome of updated_item
made-item : (b : Table) (u : Item) → updated_item b u ≡ cond (agree (find u.key b) u.values) (return (made_item b u)) (refuse delta_differing_sizes)
unfolding updated_item
made-item b u = go (agree (find u.key b) u.values)
  where
    go : (a : Bool) → ((require a delta_differing_sizes >> return (sums (find u.key b) u.values)) >>= λ (v : List ℤ). return (record { key = u.key; values = v }))
        ≡ cond a (return (made_item b u)) (refuse delta_differing_sizes)
    go true = refl
    go false = refl

module _ (g : List ℕ) (b t : Table) (u : Item) (r : rising 0 t ≡ true) (kp : find u.key t ≡ kept_of g b u.key) where
  abbrev y : Item
  y = made_item b u

  -- it is as long as the base's data
  same-long : (w : List ℤ) → find u.key b ≡ some w → agree (find u.key b) u.values ≡ true → length w ≡ length y.values
  same-long w f a =
      let l : agree (some w) u.values ≡ true = subst (λ (o : Option (List ℤ)). agree o u.values ≡ true) f a in
      eqb-true (length w) (length u.values) l ∙ sym (length-sums (find u.key b) u.values a)

  kept-found : (w : List ℤ) → kept_of g b u.key ≡ some w → find u.key b ≡ some w
  kept-found w = go (elem u.key g)
    where
      go : (h : Bool) → cond h none (find u.key b) ≡ some w → find u.key b ≡ some w
      go true e = let z : ◌≡◌ {A = ℕ} 0 1 = cc in absurd (omega arith)
      go false e = e

  -- an update of a key that is there
  there : is_some (kept_of g b u.key) ≡ true → Turns g b u t
  unfolding change_item judge_update
  there k = rw (kp, k, made-item b u) (go (agree (find u.key b) u.values) refl)
    where
      go : (a : Bool) → agree (find u.key b) u.values ≡ a
          → ((cond a (return y) (refuse delta_differing_sizes) >>= λ (i : Item). return (replace i t)) ≡ judged_as (judge_length a (length t) (length (written t))) (with_item y t))
          × SizesOf (judge_length a (length t) (length (written t))) (with_item y t)
      go true a =
          let (w, q) = found_some (kept_of g b u.key) k in
          let l = long-other 0 y w t r (kp ∙ q) (same-long w (kept-found w q) a) in
          (ap return (replace-is 0 y t r (ap is_some kp ∙ k)), (sym l.items, omega (arith, l.items, l.ints, length-written t, length-written (with_item y t))))
      go false a = (refl, tt)

  -- an update of another key
  absent : is_some (kept_of g b u.key) ≡ false → Turns g b u t
  unfolding new_item judge_update
  absent k =
      rw (kp, k, made-item b u, longer)
      (go (ltb (length t) 1024) (leb (length (written t) + (2 + length u.values)) 16384) (agree (find u.key b) u.values) refl)
    where
      none-there : find u.key t ≡ none
      none-there = kp ∙ found_none (kept_of g b u.key) k

      longer : length (written (insert u t)) ≡ length (written t) + (2 + length u.values)
      longer =
          let l = long-new u t none-there in
          rw (insert-is u t none-there) (omega (arith, l.items, l.ints, length-written t, length-written (with_item u t)))

      go : (c d a : Bool) → agree (find u.key b) u.values ≡ a
          → ((require c too_many_items >> (require d too_long_snap >> (cond a (return y) (refuse delta_differing_sizes) >>= λ (i : Item). return (insert i t))))
          ≡ judged_as (cond c (cond d (judge_length a (length t + 1) (length (written t) + (2 + length u.values))) (bad too_long_snap)) (bad too_many_items)) (with_item y t))
          × SizesOf (cond c (cond d (judge_length a (length t + 1) (length (written t) + (2 + length u.values))) (bad too_long_snap)) (bad too_many_items)) (with_item y t)
      go false d a e = (refl, tt)
      go true false a e = (refl, tt)
      go true true false e = (refl, tt)
      go true true true e =
          let l = long-new y t none-there in
          let m = length-sums (find u.key b) u.values e in
          (ap return (insert-is y t none-there), (sym l.items, omega (arith, l.items, l.ints, m, length-written t, length-written (with_item y t))))

  pub update-judged : Turns g b u t
  update-judged = go (is_some (kept_of g b u.key)) refl
    where
      go : (k : Bool) → is_some (kept_of g b u.key) ≡ k → Turns g b u t
      go true k = there k
      go false k = absent k

-- ---- all updates

-- the next judgement, whose table is the same
then-judged : (j : Judged) (t t' : Table) (o : Table → Outcome Table) (f : ℕ → ℕ → Judged)
    → SizesOf j t → ((n w : ℕ) → n ≡ length t → w ≡ length (written t) → (o t ≡ judged_as (f n w) t') × SizesOf (f n w) t')
    → ((judged_as j t >>= o) ≡ judged_as (and_then j f) t') × SizesOf (and_then j f) t'
then-judged (bad r) t t' o f s h = (refl, tt)
then-judged (good n w) t t' o f s h =
    let r = h n w s.0 s.1 in (return-bind t o ∙ r.0, r.1)

-- the outcome of updates is their judgement, with the table that they make
pub updates-judged : (g : List ℕ) (low : ℕ) (b : Table) (us : List Item) (t : Table) (n w : ℕ) → signed_rising low (keys us) ≡ true → rising 0 t ≡ true → n ≡ length t → w ≡ length (written t)
    → ((j : ℕ) → low ≤ rank j → find j t ≡ kept_of g b j)
    → (apply_updates b us t ≡ judged_as (judge_updates g b us n w) (updated_table b us t)) × SizesOf (judge_updates g b us n w) (updated_table b us t)
unfolding apply_updates judge_updates updated_table
updates-judged g low b [] t n w e r en ew h = (refl, (en, ew))
updates-judged g low b (u ∷ us) t n w e r en ew h =
    let s = signed-rises low u.key (keys us) e in
    let y = made_item b u in
    let one = update-judged g b t u r (h u.key s.from) in
    let all = then-judged (judge_update g b u (length t) (length (written t))) (with_item y t) (updated_table b us (with_item y t)) (apply_updates b us) (judge_updates g b us) one.1
    (λ n' w' en' ew'.
    updates-judged g (suc (rank u.key)) b us (with_item y t) n' w' s.rest (rising-with_item 0 y t r (omega arith) s.whole) en' ew'
    (λ j l. find-with_item j y t ∙ rw (ne_eqb u.key j (λ q. omega (arith, ap rank q))) (h j (omega (arith, s.from))))) in
    rw (en, ew) (ap (λ (o : Outcome Table). o >>= apply_updates b us) one.0 ∙ all.0, all.1)

-- ---- the whole

-- the counts of a deleted key that the base lacks
abbrev pub unknown_counts : Bool → Counts
unknown_counts b = cond b (Warnings.one UnknownDelete) Warnings.none

-- whether the base lacks a deleted key: fewer of its items are deleted than there are deleted keys
abbrev pub has_unknown : Table → Delta → Bool
has_unknown b d = not (eqb (length (kept d.deleted b) + length d.deleted) (length b))

-- the judgement of a delta, from what the base keeps on
abbrev pub judge_delta : Table → Delta → Judged
judge_delta b d =
    judge_updates d.deleted b d.updated (length (kept d.deleted b)) (length (written (kept d.deleted b)))

-- the table that a delta makes, where nothing is refused
abbrev pub applied_table : Table → Delta → Table
applied_table b d = updated_table b d.updated (kept d.deleted b)

-- the outcome of applying a delta is its judgement, with the table that it makes
pub delta-judged : (b : Table) (d : Delta) → rising 0 b ≡ true → signed_rising 0 (keys d.updated) ≡ true
    → (apply_delta b d ≡ after (unknown_counts (has_unknown b d)) (judged_as (judge_delta b d) (applied_table b d))) × SizesOf (judge_delta b d) (applied_table b d)
unfolding apply_delta
delta-judged b d r e =
    let all = updates-judged d.deleted 0 b d.updated (kept d.deleted b) (length (kept d.deleted b)) (length (written (kept d.deleted b))) e (rising-kept 0 d.deleted b r) refl refl (λ j l. find-kept j d.deleted b) in
    (rw all.0 (go (has_unknown b d) (judged_as (judge_delta b d) (applied_table b d))), all.1)
  where
    go : (p : Bool) (o : Outcome Table) → (warn_if p UnknownDelete >> o) ≡ after (unknown_counts p) o
    go true o = refl
    go false o = refl
