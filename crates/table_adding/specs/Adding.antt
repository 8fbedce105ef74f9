-- What the steps of adding an item require and do to an area. Assumes nothing.
use Rattle.std.specs.Prelude.{◌≡◌, List, ℕ, ◌+◌, ◌/◌, ◌<◌, ◌≤◌, ℤ, pos, length}
use Rattle.definitions.specs.Tables.{num, count, size, key_at}
use Rattle.laws.specs.TableFind.{Place}
use Rattle.table.specs.Held.{Held}

-- a count plus a number
abbrev pub raised : ℕ → ℤ → ℤ
raised by z = pos (num z + by)

-- an area holds a table of n items, none of which has the key k; p is the place of k
pub record New (a : List ℤ) (n k p : ℕ) : Type 0 where
  pub held : Held a n
  pub place : Place a k p
  pub fresh : p < n → key_at a p ≡ k → ⊥

-- and there is room for one more offset, a key and d ints of data; ints is the table's length
pub record Room (a : List ℤ) (n ints k p d : ℕ) : Type 0 where
  pub new : New a n k p
  pub takes : ints ≡ 2 + count a + size a / 4
  pub short : ints + (d + 2) ≤ 16384
  pub fits : ints + (d + 2) ≤ length a
