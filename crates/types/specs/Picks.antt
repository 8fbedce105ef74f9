-- A table whose items an index picks from ints, and which of them lack their kind. Assumes nothing.
use Rattle.std.specs.Prelude.{◌≡◌, Bool, false, not, ◌||◌, List, [], ◌∷◌, ℕ, zero, suc, ◌+◌, ◌/◌, ◌≤◌, ◌<◌, ltb, ℤ, length, get_or, take}
use Rattle.std.proofs.Math.Path.{refl, ap}
use Rattle.std.proofs.Common.{sym, subst, ◌∙◌, arith, get_or-take, length-take-le}
use Rattle.definitions.specs.Tables.{Item, Table, size, key_of, key_at, values_at, item_at, items, list, find, is_some}
use Rattle.definitions.specs.Types.{type_of}
use Rattle.laws.specs.ListLaws.{list_ext, list-cons}
use Rattle.table.specs.Held.{Held}
use Rattle.table_reading.specs.Reading.{Indexed, picked}

-- all n items of a table were read, and an index has them in unsigned key order
pub record Picks (a : List ℤ) (n : ℕ) (index : List ℕ) : Type 0 where
  pub indexed : Indexed a n (size a / 4) index n

-- the table's length in ints is a fourth of its data size
pub picks : {a : List ℤ} {n len : ℕ} {index : List ℕ} → Indexed a n len index n → Picks a n index
picks {a} {n} {len} {index} h =
    let e : len ≡ size a / 4 = omega (arith, h.ints.size_is) in
    record { indexed = subst (λ (k : ℕ). Indexed a n k index n) e h }

-- the key of the item at a place of the index
abbrev pub key_in : List ℤ → List ℕ → ℕ → ℕ
key_in a index j = key_at a (get_or index j 0)

-- its data
abbrev pub values_of : List ℤ → List ℕ → ℕ → List ℤ
values_of a index j = values_at a (get_or index j 0)

-- the item itself
abbrev pub item_of : List ℤ → List ℕ → ℕ → Item
item_of a index j = item_at a (get_or index j 0)

-- the table
abbrev pub table_in : List ℤ → ℕ → List ℕ → Table
table_in a n index = list (item_of a index) n

-- k entries from the i-th on
abbrev pub seg : (ℕ → Item) → ℕ → ℕ → Table
seg f i zero = []
seg f i (suc k) = f i ∷ seg f (suc i) k

-- r of n rising numbers are below k
pub record Lower (f : ℕ → ℕ) (n k r : ℕ) : Type 0 where
  pub within : r ≤ n
  pub below : (i : ℕ) → i < r → f i < k
  pub above : (i : ℕ) → r ≤ i → i < n → k ≤ f i

-- whether an item has a kind that no item of a table names
unfoldable pub lacks_kind : Table → Item → Bool
lacks_kind t x = not (ltb (type_of x) 16384 || is_some (find (key_of 0 (type_of x)) t))

-- whether one of some items has
unfoldable pub any_lacks : Table → List Item → Bool
any_lacks t [] = false
any_lacks t (x ∷ l) = lacks_kind t x || any_lacks t l

-- ---- the table is the one that was read

-- the picked items, one by one
map-list : (a : List ℤ) (l : List ℕ) → picked a l ≡ list (λ j. item_at a (get_or l j 0)) (length l)
unfolding list
map-list a [] = refl
map-list a (x ∷ l) =
    ap (λ (t : Table). item_at a x ∷ t) (map-list a l)
    ∙ sym (list-cons (λ j. item_at a (get_or (x ∷ l) j 0)) (length l))

-- the picked items
pub picked-list : (a : List ℤ) (n len : ℕ) (index : List ℕ) → Indexed a n len index n → picked a (take n index) ≡ table_in a n index
picked-list a n len index x =
    let e : length (take n index) ≡ n = length-take-le n index (omega (arith, x.few, x.long)) in
    map-list a (take n index)
    ∙ ap (list (λ j. item_at a (get_or (take n index) j 0))) e
    ∙ list_ext (λ j. item_at a (get_or (take n index) j 0)) (item_of a index) n (λ i l. ap (item_at a) (get_or-take n index i 0 l))

-- ---- parts of a table

-- entries from the m-th on, by place
pub seg-list : (f : ℕ → Item) (m k : ℕ) → list (λ i. f (m + i)) k ≡ seg f m k
seg-list f m zero = unfold list in refl
seg-list f m (suc k) =
    list-cons (λ i. f (m + i)) k
    ∙ ap (λ (l : Table). f (m + 0) ∷ l) (list_ext (λ i. f (m + suc i)) (λ i. f (suc m + i)) k (λ i h. let e : m + suc i ≡ suc m + i = omega arith in ap f e) ∙ seg-list f (suc m) k)
    ∙ (let e : m + 0 ≡ m = omega arith in ap (λ (i : ℕ). f i ∷ seg f (suc m) k) e)

-- the items of an area in form, by place
pub items-seg : (a : List ℤ) (n : ℕ) → Held a n → seg (item_at a) 0 n ≡ items a
items-seg a n h =
    sym (seg-list (item_at a) 0 n)
    ∙ list_ext (λ i. item_at a (0 + i)) (item_at a) n (λ i l. let e : 0 + i ≡ i = omega arith in ap (item_at a) e)
    ∙ unfold items in ap (list (item_at a)) h.count-is
