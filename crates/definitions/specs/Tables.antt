-- Tables of keyed items, their written form, and what an area of ints holds. Assumes nothing.
use Rattle.std.specs.Prelude.{Bool, true, false, cond, ◌&&◌, List, [], ◌∷◌, ◌++◌, ℕ, zero, suc, ◌+◌, ◌-◌, ◌*◌, ◌/◌, ◌%◌, ◌^◌, ltb, leb, eqb, ℤ, pos, negsuc, length, get_or, take, drop}
use Rattle.std.proofs.Math.Option.{Option, some, none}
use Rattle.std.specs.Int.Signed.{mag}
use Rattle.definitions.specs.Ints.{bits, from_bits, sum}

-- an item: the 32 bits of its key, and its data
pub record Item : Type 0 where
  pub key : ℕ
  pub values : List ℤ

-- items in the order of their keys read as unsigned
abbrev pub Table : Type 0
Table = List Item

-- the key of a type and an id
abbrev pub key_of : ℕ → ℕ → ℕ
key_of type id = type * 65536 + id

-- ---- the written form

-- key and data of each item
unfoldable pub body : Table → List ℤ
body [] = []
body (x ∷ t) = from_bits x.key ∷ x.values ++ body t

-- the byte offset of each item, the first at o
unfoldable pub offsets : ℕ → Table → List ℤ
offsets o [] = []
offsets o (x ∷ t) = pos o ∷ offsets (o + 4 * suc (length x.values)) t

-- data size in bytes, item count, byte offsets, then key and data of each item
unfoldable pub written : Table → List ℤ
written t = pos (4 * length (body t)) ∷ pos (length t) ∷ offsets 0 t ++ body t

-- keys of 32 bits that rise, from low on
unfoldable pub rising : ℕ → Table → Bool
rising low [] = true
rising low (x ∷ t) = leb low x.key && (ltb x.key (2 ^ 32) && rising (suc x.key) t)

-- at most 1,024 items, at most 16,384 ints, keys that rise
unfoldable pub sound : Table → Bool
sound t = leb (length t) 1024 && (leb (length (written t)) 16384 && rising 0 t)

-- ---- what an area holds

-- an int as a count; a negative one is more than any area has
unfoldable pub num : ℤ → ℕ
num (pos n) = n
num (negsuc n) = 2 ^ 32

-- the count at a place
unfoldable pub nat : List ℤ → ℕ → ℕ
nat a i = num (get_or a i (pos 0))

-- the data size in bytes
abbrev pub size : List ℤ → ℕ
size a = nat a 0

-- the item count
abbrev pub count : List ℤ → ℕ
count a = nat a 1

-- the byte offset of item i, or of the end of the last
unfoldable pub edge : List ℤ → ℕ → ℕ
edge a i = cond (ltb i (count a)) (nat a (2 + i)) (size a)

-- the place where item i begins, or where the last one ends
unfoldable pub start : List ℤ → ℕ → ℕ
start a i = 2 + count a + edge a i / 4

unfoldable pub key_at : List ℤ → ℕ → ℕ
key_at a i = bits (get_or a (start a i) (pos 0))

unfoldable pub values_at : List ℤ → ℕ → List ℤ
values_at a i = take (start a (i + 1) - (start a i + 1)) (drop (start a i + 1) a)

abbrev pub item_at : List ℤ → ℕ → Item
item_at a i = record { key = key_at a i; values = values_at a i }

-- f 0, f 1, .. up to k of them
unfoldable pub list {ℓ} : {X : Type ℓ} → (ℕ → X) → ℕ → List X
list f zero = []
list f (suc k) = list f k ++ f k ∷ []

-- whether p holds of every number below k
unfoldable pub all : (ℕ → Bool) → ℕ → Bool
all p zero = true
all p (suc k) = all p k && p k

-- the items that an area in form holds
unfoldable pub items : List ℤ → Table
items a = list (item_at a) (count a)

-- item i ends at a whole int, after its beginning and within the data
unfoldable pub ends : List ℤ → ℕ → Bool
ends a i =
    eqb (edge a (i + 1) % 4) 0 && (ltb (edge a i) (edge a (i + 1)) && leb (edge a (i + 1)) (size a))

-- the least key that may follow the items before i
unfoldable pub lowest : List ℤ → ℕ → ℕ
lowest a zero = 0
lowest a (suc i) = suc (key_at a i)

-- item i ends correctly, and its key is an int above the one before
unfoldable pub fits : List ℤ → ℕ → Bool
fits a i =
    ends a i && (leb (lowest a i) (key_at a i) && ltb (mag (get_or a (start a i) (pos 0))) (2 ^ 31))

-- whether an area begins with the written form of a sound table; entries past it are not judged
unfoldable pub in_form : List ℤ → Bool
in_form a =
    leb 2 (length a)
    && (leb (count a) 1024
    && (leb (2 + count a + size a / 4) 16384
    && (leb (2 + count a + size a / 4) (length a)
    && (eqb (edge a 0) 0 && all (fits a) (count a)))))

-- the table that an area holds
unfoldable pub table_of : List ℤ → Option Table
table_of a = cond (in_form a) (some (items a)) none

-- ---- items of a table

-- the data of the item with a key
unfoldable pub find : ℕ → Table → Option (List ℤ)
find k [] = none
find k (x ∷ t) = cond (eqb x.key k) (some x.values) (find k t)

-- whether there is one
abbrev pub is_some : Option (List ℤ) → Bool
is_some (some v) = true
is_some none = false

-- the table with one more item, in its place by key
unfoldable pub insert : Item → Table → Table
insert i [] = i ∷ []
insert i (x ∷ t) = cond (ltb i.key x.key) (i ∷ x ∷ t) (x ∷ insert i t)

-- the items whose keys are negative as signed
unfoldable pub negatives : Table → Table
negatives [] = []
negatives (x ∷ t) = cond (leb (2 ^ 31) x.key) (x ∷ negatives t) (negatives t)

-- the items whose keys are not
unfoldable pub positives : Table → Table
positives [] = []
positives (x ∷ t) = cond (leb (2 ^ 31) x.key) (positives t) (x ∷ positives t)

-- the items in the order of their keys read as signed
abbrev pub walk : Table → Table
walk t = negatives t ++ positives t

-- all data ints
unfoldable pub all_values : Table → List ℤ
all_values [] = []
all_values (x ∷ t) = x.values ++ all_values t

-- the sum of all data ints
abbrev pub crc : Table → ℤ
crc t = sum (all_values t)
