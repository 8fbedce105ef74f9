-- What the place of a key says: the item that has it, and the i-th item of the walk. Assumes nothing.
use Prim.Native.Nat.{ℕ, ◌+◌, ◌-◌, ◌<◌, ◌≤◌, ◌^◌}
use mathlib.Core.Path.{◌≡◌, ap, ◌∙◌}
use mathlib.Core.List.{List}
use mathlib.Core.Option.{some}
use native.Mathlib.Omega.{arith}
use lib.IntN.{ℤ}
use borrow.Author.Tests.{lt-ltb, le-ltb, ltb-true, ltb-false}
use lib.Dec.{ltb}
use Rattle.definitions.specs.Tables.{Table, list, item_at, items, key_at, count, find, walk}
use Rattle.definitions.specs.TableCalls.{nth}
use Rattle.laws.specs.TableShape.{keys-le}
use Rattle.laws.specs.TableFind.{Place, absent, present}
use Rattle.laws.specs.TableWalk.{nth-late, nth-early}
use Rattle.table.specs.Held.{Held, data_in}
use Rattle.table.specs.Searching.{Falls, Parts}

module _ (a : List ℤ) (n : ℕ) (h : Held a n) where
  module _ (k r : ℕ) (p : Place a k r) where
    pub found : r < n → key_at a r ≡ k → find k (items a) ≡ data_in a n r
    found l e =
        present a h.shape k r p (omega (arith, h.count-is)) e ∙ rw (lt-ltb r n l)

    pub missing : (r < n → key_at a r ≡ k → ⊥) → find k (items a) ≡ data_in a n n
    missing g =
        absent a h.shape k r p (λ l e. g (omega (arith, h.count-is)) e)
        ∙ rw (le-ltb n n (omega arith))

  -- the keys below k come first
  module _ (k : ℕ) where
    pub falls : Falls (λ i. ltb (key_at a i) k) n
    falls =
        record { before = λ i j l m e. lt-ltb _ _ (omega (arith, keys-le a h.shape i j l (omega (arith, h.count-is)), ltb-true _ _ e)) }

    pub placed : (r : ℕ) → r ≤ n → Parts (λ i. ltb (key_at a i) k) n r → Place a k r
    placed r l p =
        record {
          within = omega (arith, h.count-is);
          below = λ i m. ltb-true _ _ (p.holds i m);
          above = λ i m o. ltb-false _ _ (p.fails i m (omega (arith, h.count-is)));
        }

  module _ (m i : ℕ) (p : Place a (2 ^ 31) m) where
    -- the first m items, and the rest
    parts : m + (n - m) ≡ count a
    parts = omega (arith, h.count-is, p.within)

    above : (j : ℕ) → j < n - m → 2 ^ 31 ≤ key_at a (m + j)
    above j l = p.above (m + j) (omega arith) (omega (arith, h.count-is))

    pub later : m + i < n → nth (walk (items a)) i ≡ some (item_at a (m + i))
    unfolding items
    later l = rw (← parts) (nth-late (item_at a) m (n - m) p.below above i (omega arith))

    pub earlier : i < n → n ≤ m + i → nth (walk (items a)) i ≡ some (item_at a (m + i - n))
    unfolding items
    earlier l g =
        let e : i ≡ n - m + (m + i - n) = omega (arith, h.count-is, p.within) in
        let t : Table = walk (list (item_at a) (m + (n - m))) in
        rw (← parts) (ap (nth t) e ∙ nth-early (item_at a) m (n - m) p.below above (m + i - n) (omega arith))
