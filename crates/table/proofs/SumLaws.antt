-- The sum of a table's data, item by item. Assumes nothing.
use Prim.Native.Nat.{ℕ, ◌+◌}
use mathlib.Core.Path.{◌≡◌, sym, ap, ◌∙◌}
use mathlib.Core.List.{List, [], ◌∷◌}
use native.Mathlib.Numerals.{add-one}
use lib.IntN.{ℤ}
use Rattle.definitions.specs.Ints.{wrapping_add, sum}
use Rattle.definitions.specs.Tables.{list, item_at, values_at, all_values, crc}
use Rattle.laws.specs.IntLaws.{wrapping_add-zero, sum_fits}
use Rattle.laws.specs.TableWalk.{crc-append, crc-cons}

-- the data of one more item is added to the sum
pub data-more : (a : List ℤ) (i : ℕ) → wrapping_add (crc (list (item_at a) i)) (sum (values_at a i)) ≡ crc (list (item_at a) (i + 1))
unfolding list all_values
data-more a i =
    let v = sum (values_at a i) in
    rw (add-one i)
    (sym (crc-append (list (item_at a) i) (item_at a i ∷ [])
    ∙ ap (wrapping_add (crc (list (item_at a) i))) (crc-cons (item_at a i) [] ∙ wrapping_add-zero (sum_fits (values_at a i)))))
