-- The walk over the types of a table, part by part. Assumes nothing.
use mathlib.Core.Path.{◌≡◌, refl, sym, ap, ◌∙◌}
use mathlib.Core.Bool.{Bool, true, false, cond, not, ◌||◌}
use mathlib.Core.List.{List, [], ◌∷◌, ◌++◌}
use Prim.Native.Nat.{ℕ, ◌≤◌, ◌<◌}
use native.Mathlib.Omega.{arith}
use borrow.Author.Tests.{eq-eqb, ne_eqb, le-ltb, le-leb, lt-leb}
use lib.Dec.{eqb, ltb}
use lib.IntN.{ℤ}
use lib.ListN.{length, take}
use Rattle.definitions.specs.Refusals.{duplicate_uuid_type, invalid_uuid_type, missing_uuid_type}
use Rattle.definitions.specs.Warnings.{Counts, ExcessUuidItemData}
use Rattle.definitions.specs.Outcome.{Outcome, ok, err, return, refuse, after, require, warn_if, ◌>>=◌, ◌>>◌}
use Rattle.definitions.specs.Tables.{Item, Table, key_of, find, is_some}
use Rattle.definitions.specs.Types.{type_of, has_kind, kind_named, judge_types}
use Rattle.laws.specs.WarningLaws.{plus_none}
use Rattle.laws.specs.OutcomeLaws.{after_none, after-after}
use Rattle.types.specs.Picks.{lacks_kind, any_lacks}
use Rattle.format.specs.Sources.{uuid_excess}

-- ---- items that are not of type 0

-- none of these is of type 0
abbrev pub Plain : List Item → Type 0
Plain [] = Unit {0}
Plain (x ∷ l) = (65536 ≤ x.key) × Plain l

-- the outcome for such items
abbrev pub lacked : Bool → Outcome (Unit {0})
lacked b = cond b (refuse missing_uuid_type) (return tt)

module _ (t : Table) where
  plain_step : (kinds : List (List ℤ)) (x : Item) (l : List Item) → 65536 ≤ x.key → judge_types t kinds (x ∷ l) ≡ (require (not (lacks_kind t x)) missing_uuid_type >> judge_types t kinds l)
  plain_step kinds x l h =
      unfold judge_types lacks_kind in
      rw (ne_eqb (type_of x) 0 (λ e. omega arith)) (go (ltb (type_of x) 16384 || is_some (find (key_of 0 (type_of x)) t)))
    where
      go : (b : Bool) → (require b missing_uuid_type >> judge_types t kinds l) ≡ (require (not (not b)) missing_uuid_type >> judge_types t kinds l)
      go true = refl
      go false = refl

  pub plain : (kinds : List (List ℤ)) (l : List Item) → Plain l → judge_types t kinds l ≡ lacked (any_lacks t l)
  unfolding any_lacks
  plain kinds [] h = unfold judge_types in refl
  plain kinds (x ∷ l) h = plain_step kinds x l h.0 ∙ go (lacks_kind t x) (plain kinds l h.1)
    where
      go : (b : Bool) → judge_types t kinds l ≡ lacked (any_lacks t l) → (require (not b) missing_uuid_type >> judge_types t kinds l) ≡ lacked (b || any_lacks t l)
      go true e = refl
      go false e = after_none (judge_types t kinds l) ∙ e

  -- two tests in a row
  pub lacked-first : (b : Bool) (o : Outcome (Unit {0})) → (lacked b >> o) ≡ cond b (refuse missing_uuid_type) o
  lacked-first true o = refl
  lacked-first false o = after_none o

  -- such items before others
  pub plain-before : (kinds : List (List ℤ)) (l m : List Item) → Plain l → judge_types t kinds (l ++ m) ≡ (judge_types t kinds l >> judge_types t kinds m)
  plain-before kinds [] m h = unfold judge_types in sym (after_none (judge_types t kinds m))
  plain-before kinds (x ∷ l) m h =
      plain_step kinds x (l ++ m) h.0
      ∙ go (not (lacks_kind t x)) (plain-before kinds l m h.1)
      ∙ ap (λ (o : Outcome (Unit {0})). o >> judge_types t kinds m) (sym (plain_step kinds x l h.0))
    where
      go : (b : Bool) → judge_types t kinds (l ++ m) ≡ (judge_types t kinds l >> judge_types t kinds m) → (require b missing_uuid_type >> judge_types t kinds (l ++ m)) ≡ (require b missing_uuid_type >> judge_types t kinds l >> judge_types t kinds m)
      go true e = after_none (judge_types t kinds (l ++ m)) ∙ e ∙ ap (λ (o : Outcome (Unit {0})). o >> judge_types t kinds m) (sym (after_none (judge_types t kinds l)))
      go false e = refl

  -- ---- items of type 0 before such items

  abbrev kind_step : Outcome (List ℤ) → List (List ℤ) → (List (List ℤ) → Outcome (Unit {0})) → Outcome (Unit {0})
  kind_step o kinds p = o >>= λ k. require (not (has_kind k kinds)) duplicate_uuid_type >> p (k ∷ kinds)

  step : (kinds : List (List ℤ)) (x : Item) (l : List Item) → judge_types t kinds (x ∷ l) ≡ cond (eqb (type_of x) 0) (kind_step (kind_named x.values) kinds (λ k. judge_types t k l)) (require (ltb (type_of x) 16384 || is_some (find (key_of 0 (type_of x)) t)) missing_uuid_type >> judge_types t kinds l)
  unfolding judge_types
  step kinds x l = refl

  then-after : (w : Counts) (o p : Outcome (Unit {0})) → (after w o >> p) ≡ after w (o >> p)
  then-after w (ok a v) p = sym (after-after w v p)
  then-after w (err n v) p = refl

  require-then : (b : Bool) (n : ℕ) (o p q : Outcome (Unit {0})) → o ≡ (p >> q) → (require b n >> o) ≡ (require b n >> p >> q)
  require-then true n o p q e = after_none o ∙ e ∙ ap (λ (r : Outcome (Unit {0})). r >> q) (sym (after_none p))
  require-then false n o p q e = refl

  kind-then : (o : Outcome (List ℤ)) (kinds : List (List ℤ)) (p q : List (List ℤ) → Outcome (Unit {0})) (r : Outcome (Unit {0})) → ((k : List (List ℤ)) → p k ≡ (q k >> r)) → kind_step o kinds p ≡ (kind_step o kinds q >> r)
  kind-then (ok k w) kinds p q r e =
      ap (after w) (require-then (not (has_kind k kinds)) duplicate_uuid_type (p (k ∷ kinds)) (q (k ∷ kinds)) r (e (k ∷ kinds)))
      ∙ sym (then-after w (require (not (has_kind k kinds)) duplicate_uuid_type >> q (k ∷ kinds)) r)
  kind-then (err n w) kinds p q r e = refl

  pub plain-behind : (l m : List Item) → Plain m → (kinds : List (List ℤ)) → judge_types t kinds (l ++ m) ≡ (judge_types t kinds l >> judge_types t [] m)
  plain-behind [] m h kinds = plain kinds m h ∙ sym (plain [] m h) ∙ unfold judge_types in sym (after_none (judge_types t [] m))
  plain-behind (x ∷ l) m h kinds =
      step kinds x (l ++ m)
      ∙ go (eqb (type_of x) 0) (ltb (type_of x) 16384 || is_some (find (key_of 0 (type_of x)) t)) (plain-behind l m h)
      ∙ ap (λ (o : Outcome (Unit {0})). o >> judge_types t [] m) (sym (step kinds x l))
    where
      go : (b d : Bool) → ((k : List (List ℤ)) → judge_types t k (l ++ m) ≡ (judge_types t k l >> judge_types t [] m)) → cond b (kind_step (kind_named x.values) kinds (λ k. judge_types t k (l ++ m))) (require d missing_uuid_type >> judge_types t kinds (l ++ m)) ≡ (cond b (kind_step (kind_named x.values) kinds (λ k. judge_types t k l)) (require d missing_uuid_type >> judge_types t kinds l) >> judge_types t [] m)
      go true d e = kind-then (kind_named x.values) kinds (λ k. judge_types t k (l ++ m)) (λ k. judge_types t k l) (judge_types t [] m) e
      go false d e = require-then d missing_uuid_type (judge_types t kinds (l ++ m)) (judge_types t kinds l) (judge_types t [] m) (e kinds)

-- ---- one item of type 0

-- one if b holds
abbrev pub one_if : Bool → ℕ
one_if b = cond b 1 0

named : (v : List ℤ) → 4 ≤ length v → kind_named v ≡ ok (take 4 v) (uuid_excess (one_if (ltb 4 (length v))))
named v h = unfold kind_named in rw (le-leb 4 (length v) h) (go (ltb 4 (length v)))
  where
    go : (b : Bool) → (warn_if b ExcessUuidItemData >> (require true invalid_uuid_type >> return (take 4 v))) ≡ ok (take 4 v) (uuid_excess (one_if b))
    go true = refl
    go false = refl

short-named : (v : List ℤ) → length v < 4 → kind_named v ≡ err invalid_uuid_type (uuid_excess 0)
short-named v h = unfold kind_named in rw (lt-leb 4 (length v) h, le-ltb 4 (length v) (omega arith))

module _ (t : Table) (kinds : List (List ℤ)) (x : Item) (l : List Item) (z : x.key < 65536) where
  by_kind : judge_types t kinds (x ∷ l) ≡ kind_step t (kind_named x.values) kinds (λ k. judge_types t k l)
  by_kind = step t kinds x l ∙ rw (eq-eqb (type_of x) 0 (omega arith))

  pub kind-new : 4 ≤ length x.values → has_kind (take 4 x.values) kinds ≡ false → judge_types t kinds (x ∷ l) ≡ after (uuid_excess (one_if (ltb 4 (length x.values)))) (judge_types t (take 4 x.values ∷ kinds) l)
  kind-new h e = by_kind ∙ rw (named x.values h, e) (ap (after (uuid_excess (one_if (ltb 4 (length x.values))))) (after_none (judge_types t (take 4 x.values ∷ kinds) l)))

  pub kind-again : 4 ≤ length x.values → has_kind (take 4 x.values) kinds ≡ true → judge_types t kinds (x ∷ l) ≡ err duplicate_uuid_type (uuid_excess (one_if (ltb 4 (length x.values))))
  kind-again h e = by_kind ∙ rw (named x.values h, e) (ap (err duplicate_uuid_type) (plus_none (uuid_excess (one_if (ltb 4 (length x.values))))))

  pub kind-short : length x.values < 4 → judge_types t kinds (x ∷ l) ≡ err invalid_uuid_type (uuid_excess 0)
  kind-short h = by_kind ∙ rw (short-named x.values h)
