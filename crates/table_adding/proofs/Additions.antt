-- The result of adding an item to an area that holds n items, case by case. Assumes nothing.
use Prim.Native.Nat.{ℕ, ◌+◌, ◌/◌, ◌<◌, ◌≤◌}
use mathlib.Core.Path.{◌≡◌, refl, sym, ◌∙◌}
use mathlib.Core.List.{List}
use mathlib.Core.Option.{none}
use native.Mathlib.Omega.{arith}
use lib.IntN.{ℤ}
use lib.ListN.{length}
use borrow.Author.Tests.{lt-ltb, le-ltb, le-leb, lt-leb}
use Rattle.definitions.specs.Areas.{lay}
use Rattle.definitions.specs.Refusals.{duplicate_key, too_many_items, too_long_snap, capacity_error}
use Rattle.definitions.specs.Outcome.{Outcome, return, refuse}
use Rattle.definitions.specs.Stored.{stored}
use Rattle.definitions.specs.Tables.{Item, written, insert, find, items, count, size, key_at}
use Rattle.definitions.specs.TableReading.{add_item}
use Rattle.definitions.specs.TableCalls.{stored_table}
use Rattle.laws.specs.TableForm.{length-items, length-form}
use Rattle.laws.specs.TableFind.{Place, absent, present}
use Rattle.table.specs.Held.{Held}
use Rattle.table_adding.specs.Adding.{New}
use Rattle.table_adding.proofs.Inserting.{before, behind, parted, inserted, length-written-with}

module _ (a : List ℤ) (k : ℕ) (v : List ℤ) where
  abbrev x : Item
  x = record { key = k; values = v }

  -- the result of adding: the answer, and the area afterwards
  abbrev Comes : Outcome ℕ → List ℤ → Type 0
  Comes o l = stored_table a (add_item x (items a)) ≡ record { answer = o; out = l }

  module _ (n p : ℕ) where
    pub refused-14 : Held a n → Place a k p → p < n → key_at a p ≡ k → Comes (refuse duplicate_key) a
    unfolding add_item stored
    refused-14 h q l e = rw (present a h.shape k p q (omega (arith, h.count-is)) e)

    module _ (w : New a n k p) where
      none_is : find k (items a) ≡ none
      none_is = absent a w.held.shape k p w.place (λ l e. w.fresh (omega (arith, w.held.count-is)) e)

      length-is : length (items a) ≡ n
      length-is = length-items a w.held.shape ∙ sym w.held.count-is

      pub refused-9 : 1024 ≤ n → Comes (refuse too_many_items) a
      unfolding add_item stored
      refused-9 l = rw (none_is, le-ltb (length (items a)) 1024 (omega (arith, length-is)))

      module _ (few : n < 1024) (ints : ℕ) (takes : ints ≡ 2 + count a + size a / 4) where
        long : length (written (insert x (items a))) ≡ ints + (length v + 2)
        long =
            rw (inserted a n k p w x refl, length-written-with (before a n p) (behind a n p) x, ← parted a n k p w)
            (omega (arith, length-form a w.held.shape))

        pub refused-8 : 16384 < ints + (length v + 2) → Comes (refuse too_long_snap) a
        unfolding add_item stored
        refused-8 l = rw (none_is, lt-ltb (length (items a)) 1024 (omega (arith, length-is)), lt-leb (length (written (insert x (items a)))) 16384 (omega (arith, long)))

        module _ (short : ints + (length v + 2) ≤ 16384) where
          adds : add_item x (items a) ≡ return (insert x (items a))
          unfolding add_item
          adds = rw (none_is, lt-ltb (length (items a)) 1024 (omega (arith, length-is)), le-leb (length (written (insert x (items a)))) 16384 (omega (arith, long)))

          pub refused-40 : length a < ints + (length v + 2) → Comes (refuse capacity_error) a
          unfolding stored
          refused-40 l = rw (adds, lt-leb (length (written (insert x (items a)))) (length a) (omega (arith, long)))

          pub done : (l : List ℤ) → ints + (length v + 2) ≤ length a → l ≡ lay (written (insert x (items a))) a → Comes (return (ints + (length v + 2))) l
          unfolding stored
          done l fits e = rw (adds, le-leb (length (written (insert x (items a)))) (length a) (omega (arith, long)), long, e)
