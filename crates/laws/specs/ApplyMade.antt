-- A delta that was made of two tables, applied to the first, gives the second without a warning. Assumes nothing.
use Rattle.std.specs.Prelude.{ℕ, suc, ◌+◌, ◌<◌, ◌≤◌, ◌^◌, ◌≡◌, Bool, ℤ}
use Rattle.std.proofs.Math.Path.{refl, ap}
use Rattle.std.proofs.Common.{sym, ◌∙◌, subst, true≢false}
use Rattle.std.proofs.Math.Bool.{true, false, cond}
use mathlib.Core.List.{List, [], ◌∷◌}
use Rattle.std.proofs.Math.Option.{Option, some, none}
use native.Mathlib.Omega.{arith}
use Rattle.std.proofs.Math.ListN.{length}
use Rattle.std.proofs.Math.Dec.{eqb}
use borrow.Author.Tests.{lt-ltb, le-leb, eq-eqb, eqb-true, eqb-false}
use Rattle.definitions.specs.Refusals.{delta_differing_sizes}
use Rattle.definitions.specs.Outcome.{Outcome, return, require, ◌>>◌, ◌>>=◌}
use Rattle.definitions.specs.Tables.{Item, Table, written, rising, sound, find, is_some, insert, walk}
use Rattle.definitions.specs.Deltas.{Delta, keys}
use Rattle.definitions.specs.DeltaMaking.{agree, differences, sums, lacking, changes, alike, delta_from, create_delta}
use Rattle.definitions.specs.DeltaReading.{elem}
use Rattle.definitions.specs.Applying.{kept, updated_item, replace, change_item, new_item, apply_update, apply_updates, apply_delta}
use Rattle.laws.specs.OutcomeLaws.{ok-value, ok-not-err, return-bind, after_none}
use Rattle.laws.specs.PackLaws.{Whole}
use Rattle.laws.specs.ZipLaws.{length-differences}
use Rattle.laws.specs.TableShape.{both}
use Rattle.laws.specs.TableForm.{length-written}
use Rattle.laws.specs.TableWalk.{rises, length-walk}
use Rattle.laws.specs.TableReadSound.{length-insert}
use Rattle.laws.specs.TableSettled.{find-nil, find_head, find-tail, found-above, found-not-none, same-found, Within, no_longer}
use Rattle.laws.specs.TableChanged.{find-kept, rising-kept, placed, find-placed, rising-placed}
use Rattle.laws.specs.TableEach.{Each, no_more, one, each-walk, WholeTable, whole-found, eqb_swap, elem-found, elem-walk, found-lacking, found-changes}
use Rattle.laws.specs.DeltaLaws.{sums-differences}
use Rattle.laws.specs.DeltaMade.{Sound, facts}
use Rattle.laws.specs.DeltaMakingLaws.{Known, known-own}
use Rattle.laws.specs.DeltaSize.{length_keys_of}

-- ---- an update that takes the base to the target

-- its key is the target's, it is as long as the base's data, and both add up to the target's
pub record Brings (b t : Table) (u : Item) : Type 0 where
  pub whole : u.key < 2 ^ 32
  pub target : List ℤ
  pub there : find u.key t ≡ some target
  pub sum : sums (find u.key b) u.values ≡ target
  pub fits : agree (find u.key b) u.values ≡ true
  pub long : length u.values ≡ length target

-- the item that it makes
abbrev brought : (b t : Table) (u : Item) → Brings b t u → Item
brought b t u p = record { key = u.key; values = p.target }

-- an update that makes an item is not refused
makes : (b t : Table) (u : Item) (p : Brings b t u) → updated_item b u ≡ return (brought b t u p)
unfolding updated_item
makes b t u p = rw (p.fits, p.sum)

-- the item takes the place of the one with its key
changed : (b : Table) (u i : Item) (s : Table) → updated_item b u ≡ return i → change_item b u s ≡ return (replace i s)
unfolding change_item
changed b u i s e = rw e

-- or is new, where there is room
added : (b : Table) (u i : Item) (s : Table) → length s < 1024 → length (written (insert u s)) ≤ 16384 → updated_item b u ≡ return i → new_item b u s ≡ return (insert i s)
unfolding new_item
added b u i s few short e = rw (lt-ltb (length s) 1024 few, le-leb (length (written (insert u s))) 16384 short, e)

-- an item as long as the target's keeps a table within it
within-placed : (s t : Table) (i : Item) (w : List ℤ) → Within s t → find i.key t ≡ some w → length w ≡ length i.values → Within (placed i s) t
within-placed s t i w h e l j x f = go (eqb i.key j) refl
  where
    go : (p : Bool) → eqb i.key j ≡ p → (v : List ℤ) × (find j t ≡ some v) × (length v ≡ length x)
    go true q =
        let k : i.key ≡ j = eqb-true i.key j q in
        let d : find j (placed i s) ≡ some i.values = find-placed i s j ∙ rw q in
        let same : i.values ≡ x = cc in
        (w, subst (λ (n : ℕ). find n t ≡ some w) k e, l ∙ ap length same)
    go false q =
        let d : find j (placed i s) ≡ find j s = find-placed i s j ∙ rw q in
        h j x (sym d ∙ f)

module _ (b t : Table) (g : Sound t) where
  -- one such update is not refused
  step : (u : Item) (s : Table) → rising 0 s ≡ true → Within s t → (p : Brings b t u) → apply_update b u s ≡ return (placed (brought b t u p) s)
  step u s e h p = go (is_some (find u.key s)) refl
    where
      go : (q : Bool) → is_some (find u.key s) ≡ q → cond q (change_item b u s) (new_item b u s) ≡ return (cond q (replace (brought b t u p) s) (insert (brought b t u p) s))
      go true f = changed b u (brought b t u p) s (makes b t u p)
      go false f =
          let grown : placed u s ≡ insert u s = rw f in
          let r : rising 0 (insert u s) ≡ true = subst (λ (l : Table). rising 0 l ≡ true) grown (rising-placed u s e p.whole) in
          let w : Within (insert u s) t = subst (λ (l : Table). Within l t) grown (within-placed s t u p.target h p.there (sym p.long)) in
          let n = no_longer 0 0 (insert u s) t r g.rises w in
          let few : length s < 1024 = omega (arith, n.0, g.few, length-insert u s) in
          let short : length (written (insert u s)) ≤ 16384 = omega (arith, n.0, n.1, g.short, length-written (insert u s), length-written t) in
          added b u (brought b t u p) s few short (makes b t u p)

  -- all updates, if the keys that they lack are as in the target
  steps : (us : List Item) (s : Table) → rising 0 s ≡ true → Within s t → Each (Brings b t) us
      → ((j : ℕ) → elem j (keys us) ≡ false → find j s ≡ find j t) → apply_updates b us s ≡ return t
  unfolding apply_updates
  steps [] s e h no_more o = ap return (same-found 0 s t e g.rises (λ j. o j refl))
  steps (u ∷ us) s e h (one p r) o =
      let i = brought b t u p in
      ap (λ (a : Outcome Table). a >>= apply_updates b us) (step u s e h p)
      ∙ (return-bind (placed i s) (apply_updates b us)
      ∙ steps us (placed i s) (rising-placed i s e p.whole) (within-placed s t i p.target h p.there refl) r
      (λ j f. next j f (eqb u.key j) refl))
    where
      next : (j : ℕ) → elem j (keys us) ≡ false → (q : Bool) → eqb u.key j ≡ q → find j (placed (brought b t u p) s) ≡ find j t
      next j f true q =
          let k : u.key ≡ j = eqb-true u.key j q in
          find-placed (brought b t u p) s j ∙ rw q (sym (subst (λ (n : ℕ). find n t ≡ some p.target) k p.there))
      next j f false q =
          find-placed (brought b t u p) s j
          ∙ rw q (o j (rw (eqb_swap j u.key, q) f))

-- ---- what creation makes

-- one item's differences
brings : (b t : Table) (x : Item) → WholeTable b → x.key < 2 ^ 32 → find x.key t ≡ some x.values → Whole x.values → agree (find x.key b) x.values ≡ true
    → Brings b t (record { key = x.key; values = differences (find x.key b) x.values })
brings b t x h l e w a =
    record {
      whole = l;
      target = x.values;
      there = e;
      sum = sums-differences (find x.key b) x.values a (whole-found h x.key (find x.key b) refl) w;
      fits = still (find x.key b) x.values a;
      long = length-differences (find x.key b) x.values a;
    }
  where
    still : (o : Option (List ℤ)) (v : List ℤ) → agree o v ≡ true → agree o (differences o v) ≡ true
    still none v q = refl
    still (some y) v q =
        eq-eqb (length y) _ (eqb-true (length y) (length v) q ∙ sym (length-differences (some y) v q))

-- the differences of every item of a part of the target
all-bring : (b t : Table) (low : ℕ) {u : Table} → WholeTable b → WholeTable u → rising low u ≡ true → alike b u ≡ true
    → ((j : ℕ) (w : List ℤ) → find j u ≡ some w → find j t ≡ some w) → Each (Brings b t) (changes b u)
unfolding changes alike
all-bring b t low hb no_more r a h = no_more
all-bring b t low hb (one {x} {t = u} w r) e a h =
    let s = rises low x u e in
    let p = both (agree (find x.key b) x.values) _ a in
    one (brings b t x hb s.whole (h x.key x.values (find_head x u)) w p.0)
    (all-bring b t (suc x.key) hb r s.rest p.1
    (λ j y f. h j y (find-tail j x u (λ q. omega (arith, found-above (suc x.key) j y u s.rest f)) ∙ f)))

-- a key that both have has data of the same length
alike-found : (b u : Table) → alike b u ≡ true → (j : ℕ) (v : List ℤ) → find j u ≡ some v → agree (find j b) v ≡ true
unfolding alike
alike-found b [] a j v e = found-not-none e (find-nil j)
alike-found b (x ∷ u) a j v e = go (eqb x.key j) refl (alike-found b u q.1 j v)
  where
    q : (agree (find x.key b) x.values ≡ true) × (alike b u ≡ true)
    q = both (agree (find x.key b) x.values) _ a

    go : (p : Bool) → eqb x.key j ≡ p → (find j u ≡ some v → agree (find j b) v ≡ true) → agree (find j b) v ≡ true
    go true f h =
        let k : x.key ≡ j = eqb-true x.key j f in
        let d : find j (x ∷ u) ≡ some x.values = subst (λ (i : ℕ). find i (x ∷ u) ≡ some x.values) k (find_head x u) in
        let m : x.values ≡ v = cc in
        rw (← m, ← k) q.0
    go false f h = h (sym (find-tail j x u (eqb-false x.key j f)) ∙ e)

module _ (b t : Table) where
  -- the keys that go
  abbrev gone : List ℕ
  gone = keys (walk (lacking t b))

  -- they are the base's that the target lacks
  is-gone : (j : ℕ) → elem j gone ≡ cond (is_some (find j t)) false (is_some (find j b))
  is-gone j = elem-walk j (lacking t b) ∙ (elem-found j (lacking t b) ∙ found-lacking j t b)

  -- the deleted keys are those that are not kept
  counts : (u : Table) → Known b u → length (kept gone u) + length (lacking t u) ≡ length u
  unfolding kept lacking
  counts [] h = refl
  counts (x ∷ u) h = go (is_some (find x.key t)) (elem x.key gone) refl (is-gone x.key ∙ rw h.0) (counts u h.1)
    where
      go : (p q : Bool) → is_some (find x.key t) ≡ p → q ≡ cond (is_some (find x.key t)) false true → length (kept gone u) + length (lacking t u) ≡ length u
          → length (cond q (kept gone u) (x ∷ kept gone u)) + length (cond p (lacking t u) (x ∷ lacking t u)) ≡ length (x ∷ u)
      go true true e f r = absurd (true≢false (f ∙ rw e))
      go true false e f r = omega arith
      go false true e f r = omega arith
      go false false e f r = absurd (true≢false (sym (f ∙ rw e)))

  -- so no deleted key is unknown
  all-counted : length (kept gone b) + length gone ≡ length b
  all-counted =
      omega (arith, counts b (known-own b), length_keys_of (walk (lacking t b)), length-walk (lacking t b))

  -- what is kept is what the target has too
  kept-is : (j : ℕ) → find j (kept gone b) ≡ cond (is_some (find j t)) (find j b) none
  kept-is j = find-kept j gone b ∙ rw (is-gone j) (go (is_some (find j t)) (find j b))
    where
      go : (p : Bool) (o : Option (List ℤ)) → cond (cond p false (is_some o)) none o ≡ cond p o none
      go true o = refl
      go false (some v) = refl
      go false none = refl

  -- what is kept is as long as in the target
  within : alike b t ≡ true → Within (kept gone b) t
  within a j w f = go (find j t) refl
    where
      go : (o : Option (List ℤ)) → find j t ≡ o → (v : List ℤ) × (find j t ≡ some v) × (length v ≡ length w)
      go none q = found-not-none f (kept-is j ∙ rw q)
      go (some v) q =
          let d : find j (kept gone b) ≡ find j b = kept-is j ∙ rw q in
          let fb : find j b ≡ some w = sym d ∙ f in
          let g : agree (some w) v ≡ true = rw fb at (alike-found b t a j v q) in
          (v, q, sym (eqb-true (length w) (length v) g))

  -- what no update names is as in the target
  others : (j : ℕ) → elem j (keys (walk (changes b t))) ≡ false → find j (kept gone b) ≡ find j t
  others j f = go (find j t) refl
    where
      h : is_some (find j t) ≡ false
      h = sym (elem-walk j (changes b t) ∙ (elem-found j (changes b t) ∙ found-changes j b t)) ∙ f

      go : (o : Option (List ℤ)) → find j t ≡ o → find j (kept gone b) ≡ find j t
      go none q = kept-is j ∙ rw q
      go (some v) q = absurd (true≢false (rw q at h))

  -- the delta between two tables takes the first to the second
  pub apply-made : sound b ≡ true → sound t ≡ true → WholeTable b → WholeTable t → alike b t ≡ true → apply_delta b (delta_from b t) ≡ return t
  unfolding apply_delta delta_from
  apply-made sb st hb ht a =
      let g = facts t st in
      rw (eq-eqb (length (kept gone b) + length gone) (length b) all-counted)
      (after_none (apply_updates b (walk (changes b t)) (kept gone b))
      ∙ steps b t g (walk (changes b t)) (kept gone b) (rising-kept 0 gone b (facts b sb).rises) (within a)
      (each-walk (Brings b t) (all-bring b t 0 hb ht g.rises a (λ j w f. f))) others)

-- what creation says
pub created : (b t : Table) (d : Delta) → create_delta b t ≡ return d → (alike b t ≡ true) × (delta_from b t ≡ d)
unfolding create_delta
created b t d e = go (alike b t) e
  where
    go : (p : Bool) → (require p delta_differing_sizes >> return (delta_from b t)) ≡ return d → (p ≡ true) × (delta_from b t ≡ d)
    go true q = (refl, ok-value q)
    go false q = absurd (ok-not-err (sym q))

-- if creation makes a delta, the delta leads from the base to the target
pub apply-created : (b t : Table) (d : Delta) → sound b ≡ true → sound t ≡ true → WholeTable b → WholeTable t → create_delta b t ≡ return d → apply_delta b d ≡ return t
apply-created b t d sb st hb ht e =
    let c = created b t d e in
    rw (← c.1) (apply-made b t sb st hb ht c.0)
