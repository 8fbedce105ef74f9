-- Where the items of an index are. Assumes nothing.
use mathlib.Core.Path.{◌≡◌, sym, ap, ◌∙◌}
use mathlib.Core.List.{List}
use mathlib.Core.Logic.{⊎_elim}
use Prim.Native.Nat.{ℕ, zero, suc, ◌+◌, ◌/◌, ◌%◌, ◌≤◌, ◌<◌}
use native.Mathlib.Nat.{eq-or-lt_of_le}
use native.Mathlib.Numerals.{add-one}
use native.Mathlib.Omega.{arith}
use borrow.Author.Tests.{lt-ltb, ltb-true, ltb-false}
use lib.Dec.{ltb}
use lib.IntN.{ℤ}
use lib.ListN.{length, get_or}
use Rattle.definitions.specs.Tables.{edge, start}
use Rattle.laws.specs.TableShape.{ends-well}
use Rattle.table.specs.Searching.{Falls, Parts}
use Rattle.types.specs.Picks.{Picks, key_in, Lower}

module _ (a : List ℤ) (n : ℕ) (index : List ℕ) (x : Picks a n index) where
  -- edges are at whole ints
  aligned : (k : ℕ) → k ≤ n → edge a k % 4 ≡ 0
  aligned zero h = rw x.indexed.first
  aligned (suc k) h = ap (λ (i : ℕ). edge a i % 4) (sym (add-one k)) ∙ (ends-well a k (x.indexed.well k h)).aligned

  -- an item begins before it ends, within the ints
  pub record Place (k : ℕ) : Type 0 where
    pub begins : 2 + n + edge a k / 4 ≡ start a k
    pub ends : 2 + n + edge a (k + 1) / 4 ≡ start a (k + 1)
    pub rises : start a k < start a (k + 1)
    pub inside : start a (k + 1) ≤ length a
    pub few : n ≤ 1024
    pub within : k < n

  pub at : (k : ℕ) → k < n → Place k
  unfolding start
  at k h =
      let i = x.indexed in
      let w = ends-well a k (i.well k h) in
      record {
        begins = omega (arith, i.ints.count-is);
        ends = omega (arith, i.ints.count-is);
        rises = omega (arith, aligned k (omega arith), w.aligned, w.rises);
        inside = omega (arith, w.within, i.ints.size_is, i.ints.room, i.ints.count-is);
        few = i.few;
        within = h;
      }

  -- the item at a place of the index
  pub placed : (j : ℕ) → j < n → Place (get_or index j 0)
  placed j h = at (get_or index j 0) (x.indexed.within j h)

  -- no key is above a later one
  pub keys-le : (i j : ℕ) → i ≤ j → j < n → key_in a index i ≤ key_in a index j
  keys-le i j l m =
      ⊎_elim (λ (q : i ≡ j). omega (arith, ap (key_in a index) q)) (λ (k : i < j). omega (arith, x.indexed.rise i j k m)) (eq-or-lt_of_le l)

  -- the keys below k come first
  module _ (k : ℕ) where
    pub falls : Falls (λ j. ltb (key_in a index j) k) n
    falls = record { before = λ i j l m e. lt-ltb _ _ (omega (arith, keys-le i j l m, ltb-true _ _ e)) }

    pub lowered : (r : ℕ) → r ≤ n → Parts (λ j. ltb (key_in a index j) k) n r → Lower (key_in a index) n k r
    lowered r l p =
        record { within = l; below = λ i m. ltb-true _ _ (p.holds i m); above = λ i m o. ltb-false _ _ (p.fails i m o) }
