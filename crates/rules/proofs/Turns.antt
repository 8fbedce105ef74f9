-- The turns of the search: items are taken from the last to the first. Assumes nothing.
use mathlib.Core.Path.{◌≡◌, refl, sym, ap, ◌∙◌, subst}
use mathlib.Core.Bool.{Bool, true, false}
use mathlib.Core.Logic.{◌⊎◌, inl, inr}
use mathlib.Core.List.{List, [], ◌∷◌}
use mathlib.Core.Option.{Option, some, none}
use Prim.Native.Nat.{ℕ, zero, suc, ◌+◌, ◌/◌, ◌<◌, ◌≤◌}
use native.Mathlib.Omega.{arith}
use native.Mathlib.Numerals.{add-one}
use borrow.Author.Tests.{eq-eqb, ne_eqb, eqb-true}
use Rattle.std.specs.Prelude.{Some, None}
use Rattle.std.specs.Prelude as Code
use Rattle.std.specs.List.{list_any}
use Rattle.std.proofs.lemmas.Bool.Decides.{nat_tests}
use Rattle.std.proofs.lemmas.Grind.{get_or_default_zero}
use Rattle.std.proofs.lemmas.List.Folds.{list_any_at, Any-from_list_any}
use lib.Dec.{eqb}
use lib.IntN.{ℤ, pos}
use lib.ListN.{length, get_or, drop, drop_of_length-le}
use lib.Seq.{drop-cons}
use Rattle.definitions.specs.Ints.{bits, from_bits}
use Rattle.definitions.specs.Refusals.{short_rule}
use Rattle.definitions.specs.Outcome.{return, refuse}
use Rattle.definitions.specs.DeltaReading.{elem}
use Rattle.definitions.specs.Tables.{Item, Table, items, item_at, key_at, values_at, count}
use Rattle.definitions.specs.Types.{type_of}
use Rattle.definitions.specs.Rules.{Rule, rule_in, rules_of, first_of, winner_of, winner_in, winner_for}
use Rattle.laws.specs.ListLaws.{get_or-list, Among, here, there}
use Rattle.laws.specs.RuleLaws.{rule_of, elem-among, short-refuses}
use Rattle.laws.specs.TableShape.{keys-rise}
use Rattle.laws.specs.TableForm.{length-items}
use Rattle.laws.specs.TableRoundTrip.{no_item}
use Rattle.table.specs.Held.{Held}
use Rattle.rules.specs.Searching.{best_in, first_best, told}
use Rattle.rules.specs.declared.checked.Best.{Best}
use Rattle.rules.proofs.Bests.{first-best, one_of}

-- ---- a list that names types

-- two numbers compared either way
eqb-sym : (m k : ℕ) → eqb m k ≡ eqb k m
eqb-sym m k = grind (arith, nat_tests)

-- whether the list contains the type
pub named-is : (k : ℕ) (l : List ℕ) → list_any (λ x. eqb x k) l ≡ elem k l
named-is k [] = refl
named-is k (x ∷ l) = rw (eqb-sym x k, named-is k l)

-- a list contains what one of its entries is
pub elem-entry : (k : ℕ) (l : List ℕ) (i d : ℕ) → i < length l → get_or l i d ≡ k → elem k l ≡ true
elem-entry k l i d b e = sym (named-is k l) ∙ list_any_at (λ x. eqb x k) l i d b (eq-eqb (get_or l i d) k e)

-- what it contains is one of its entries
pub elem-place : (k : ℕ) (l : List ℕ) → (elem k l ≡ false) ⊎ ((i : ℕ) × (i < length l) × (get_or l i 0 ≡ k))
elem-place k l = go (elem k l) refl
  where
    go : (b : Bool) → elem k l ≡ b → (elem k l ≡ false) ⊎ ((i : ℕ) × (i < length l) × (get_or l i 0 ≡ k))
    go false e = inl e
    go true e =
        let a = Any-from_list_any (λ x. eqb x k) l (named-is k l ∙ e) in
        inr (a.0, a.2, sym (get_or_default_zero l a.0 a.1 a.2) ∙ a.3 ∙ eqb-true a.1 k a.4)

-- ---- the rules of a table, item by item

module _ (types : List ℕ) (x : Item) (t : Table) where
  -- an item of a type that is not named
  skips : elem (type_of x) types ≡ false → rules_of types (x ∷ t) ≡ rules_of types t
  unfolding rules_of
  skips e = rw e

  -- a rule
  takes : {r : Rule} {l : List Rule} → elem (type_of x) types ≡ true → rule_in x.key x.values ≡ return r → rules_of types t ≡ return l
      → rules_of types (x ∷ t) ≡ return (r ∷ l)
  unfolding rules_of
  takes e f g = rw (e, f, g)

-- the rule of three ints
abbrev rule_of_ints : ℕ → List ℤ → Rule
rule_of_ints k v = rule_of k (get_or v 0 (pos 0)) (get_or v 1 (pos 0)) (get_or v 2 (pos 0))

-- data with three ints is a rule
three_ints : (k : ℕ) (v : List ℤ) → 3 ≤ length v → rule_in k v ≡ return (rule_of_ints k v)
unfolding rule_in
three_ints k [] l = absurd (omega arith)
three_ints k (i ∷ []) l = absurd (omega arith)
three_ints k (i ∷ p ∷ []) l = absurd (omega arith)
three_ints k (i ∷ p ∷ a ∷ more) l = refl

-- the item at a place is among the others
among-drop : {x : Item} {u : Table} (t : Table) (m : ℕ) → drop m t ≡ x ∷ u → Among x t
among-drop {x} t zero e = subst (Among x) (sym e) here
among-drop [] (suc m) e = let z : ◌≡◌ {A = ℕ} 0 1 = cc in absurd (omega arith)
among-drop (y ∷ t) (suc m) e = there (among-drop t m e)

-- ---- the state of the search

-- the items from m on have these rules, and b is the best of them; the items before have lesser keys
pub record Searched (types : List ℕ) (i : ℤ) (a : List ℤ) (m : ℕ) (b : Code.Option Best) : Type 0 where
  pub rules : List Rule
  pub rules-are : rules_of types (drop m (items a)) ≡ return rules
  pub best-is : b ≡ best_in (winner_of i rules)
  pub above : (r : Rule) → winner_of i rules ≡ some r → (j : ℕ) → j < m → key_at a j < r.key

module _ (types : List ℕ) (i : ℤ) (a : List ℤ) (n : ℕ) (h : Held a n) where
  -- there are n items
  few : length (items a) ≡ n
  few = length-items a h.shape ∙ sym h.count-is

  -- no item was looked at
  pub none-searched : Searched types i a n None
  none-searched =
      record {
        rules = [];
        rules-are = rw (drop_of_length-le (items a) {i = n} (omega (arith, few))) (unfold rules_of in refl);
        best-is = unfold winner_of in refl;
        above = λ r e j l. absurd (no-rule r e);
      }
    where
      no-rule : (r : Rule) → winner_of i [] ≡ some r → ⊥
      no-rule r e =
          let f : winner_of i [] ≡ none = unfold winner_of in refl in
          let z : ◌≡◌ {A = ℕ} 0 1 = cc in
          omega arith

  -- all were
  pub all-searched : (b : Code.Option Best) → Searched types i a 0 b → winner_for types i (items a) ≡ told b
  all-searched b s = rw (s.rules-are, s.best-is) (go (winner_of i s.rules))
    where
      go : (o : Option Rule) → return (winner_in o) ≡ told (best_in o)
      go (some r) = refl
      go none = refl

  -- item m, if those from the next one on were looked at
  module _ (m k : ℕ) (l : m < n) (one : k ≡ m + 1) where
    -- it comes before the items that were looked at
    next : drop m (items a) ≡ item_at a m ∷ drop k (items a)
    next =
        drop-cons (items a) m no_item (omega (arith, few))
        ∙ rw (one, add-one m) (ap (λ (y : Item). y ∷ drop (suc m) (items a)) here-is)
      where
        here-is : get_or (items a) m no_item ≡ item_at a m
        here-is = unfold items in get_or-list (item_at a) (count a) m no_item (omega (arith, h.count-is))

    -- its type is not named
    pub skipped : (b : Code.Option Best) → elem (key_at a m / 65536) types ≡ false → Searched types i a k b → Searched types i a m b
    skipped b e s =
        record {
          rules = s.rules;
          rules-are = ap (rules_of types) next ∙ skips types (item_at a m) (drop k (items a)) e ∙ s.rules-are;
          best-is = s.best-is;
          above = λ r f j o. s.above r f j (omega arith);
        }

    -- it has fewer than three ints
    pub refused : elem (key_at a m / 65536) types ≡ true → length (values_at a m) < 3 → winner_for types i (items a) ≡ refuse short_rule
    refused e few =
        rw (short-refuses
        (record {
          item = item_at a m;
          among = among-drop (items a) m next;
          named = elem-among (type_of (item_at a m)) types e;
          short = few;
        }))

    -- it is a rule: its data has three ints
    module _ (b : Code.Option Best) (s : Searched types i a k b) (named : elem (key_at a m / 65536) types ≡ true) (v : List ℤ) (data_is : v ≡ values_at a m)
        (three : 3 ≤ length v) where
      this : Rule
      this = rule_of_ints (key_at a m) v

      -- the rules from m on
      these : rules_of types (drop m (items a)) ≡ return (this ∷ s.rules)
      unfolding this
      these =
          ap (rules_of types) next
          ∙ takes types (item_at a m) (drop k (items a)) named (ap (rule_in (key_at a m)) (sym data_is) ∙ three_ints (key_at a m) v three) s.rules-are

      -- it is for another ingredient
      pub for-another : (bits (get_or v 0 (pos 0)) ≡ bits i → ⊥) → Searched types i a m b
      unfolding this
      for-another e =
          let w : winner_of i (this ∷ s.rules) ≡ winner_of i s.rules = unfold winner_of in rw (ne_eqb (bits (get_or v 0 (pos 0))) (bits i) e) in
          record {
            rules = this ∷ s.rules;
            rules-are = these;
            best-is = s.best-is ∙ ap best_in (sym w);
            above = λ q g j o. s.above q (sym w ∙ g) j (omega arith);
          }

      -- it is for the ingredient
      pub for-it : (key : ℤ) (r : Best) → key ≡ from_bits (key_at a m) → bits (get_or v 0 (pos 0)) ≡ bits i
          → r ≡ first_best (record { key = key; priority = get_or v 1 (pos 0); action = get_or v 2 (pos 0) }) b → Searched types i a m (Some r)
      unfolding this
      for-it key r key-is e f =
          let w : winner_of i (this ∷ s.rules) ≡ first_of this (winner_of i s.rules) = unfold winner_of in rw (eq-eqb (bits (get_or v 0 (pos 0))) (bits i) e) in
          record {
            rules = this ∷ s.rules;
            rules-are = these;
            best-is =
                ap Some f
                ∙ rw (key-is, s.best-is)
                (sym (first-best this (winner_of i s.rules) (λ q g. s.above q g m (omega arith))) ∙ ap best_in (sym w));
            above = λ q g j o.
                one_of this q (winner_of i s.rules) (λ u. key_at a j < u.key) (sym w ∙ g)
                (keys-rise a h.shape j m o (omega (arith, h.count-is))) (λ u d. s.above u d j (omega arith));
          }
