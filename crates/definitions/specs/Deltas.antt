-- Deltas between two tables, their written form, and what an area of ints holds. Assumes nothing.
use Rattle.std.specs.Prelude.{Bool, true, cond, ◌&&◌, List, [], ◌∷◌, ◌++◌, map, ℕ, zero, suc, ◌+◌, ◌/◌, ◌%◌, ◌^◌, ltb, leb, eqb, ℤ, pos, negsuc, length, get_or, take, drop}
use Rattle.std.proofs.Math.Option.{Option, some, none}
use Rattle.std.specs.Int.Signed.{mag}
use Rattle.definitions.specs.Ints.{bits, from_bits}
use Rattle.definitions.specs.Tables.{Item, key_of, nat, list, all}

-- the deleted keys, and the updates, each with its key and its differences
pub record Delta : Type 0 where
  pub deleted : List ℕ
  pub updated : List Item

-- whether nothing is deleted and nothing is updated
abbrev pub is_empty_delta : Delta → Bool
is_empty_delta d = eqb (length d.deleted) 0 && eqb (length d.updated) 0

-- the place of a key among all keys read as signed
unfoldable pub rank : ℕ → ℕ
rank k = (k + 2 ^ 31) % 2 ^ 32

-- the keys of some items
abbrev pub keys : List Item → List ℕ
keys t = map (λ (x : Item). x.key) t

-- keys of 32 bits that rise as signed, from rank low on
unfoldable pub signed_rising : ℕ → List ℕ → Bool
signed_rising low [] = true
signed_rising low (k ∷ l) = leb low (rank k) && (ltb k (2 ^ 32) && signed_rising (suc (rank k)) l)

-- both lists of keys rise as signed
unfoldable pub is_in_order : Delta → Bool
is_in_order d = signed_rising 0 d.deleted && signed_rising 0 (keys d.updated)

-- ---- known sizes, a list by type

-- a negative size is unknown
abbrev pub known : ℤ → Option ℕ
known (pos n) = some n
known (negsuc n) = none

-- the known size of a type, unless it is absent
unfoldable pub known_size : List ℤ → ℕ → Option ℕ
known_size sizes type = cond (ltb type (length sizes)) (known (get_or sizes type (pos 0))) none

-- ---- the written form

-- a size is written if none is known
abbrev pub size_ints : Option ℕ → ℕ → List ℤ
size_ints (some m) n = []
size_ints none n = pos n ∷ []

-- type, id, size unless known, differences
unfoldable pub update_ints : List ℤ → Item → List ℤ
update_ints sizes x =
    pos (x.key / 65536) ∷ pos (x.key % 65536)
    ∷ size_ints (known_size sizes (x.key / 65536)) (length x.values) ++ x.values

unfoldable pub updates_ints : List ℤ → List Item → List ℤ
updates_ints sizes [] = []
updates_ints sizes (x ∷ l) = update_ints sizes x ++ updates_ints sizes l

-- deleted count, updated count, padding; the deleted keys; the updates
unfoldable pub delta_ints : List ℤ → Delta → List ℤ
delta_ints sizes d =
    pos (length d.deleted) ∷ pos (length d.updated) ∷ pos 0
    ∷ map from_bits d.deleted ++ updates_ints sizes d.updated

-- the form that an area holds: no size is known
abbrev pub written_delta : Delta → List ℤ
written_delta d = delta_ints [] d

-- ---- what some ints hold under known sizes

abbrev pub num_deleted : List ℤ → ℕ
num_deleted a = nat a 0

abbrev pub num_updated : List ℤ → ℕ
num_updated a = nat a 1

-- the i-th deleted key
unfoldable pub deleted_at : List ℤ → ℕ → ℕ
deleted_at a i = bits (get_or a (3 + i) (pos 0))

-- the key of the update at place p
unfoldable pub update_key : List ℤ → ℕ → ℕ
update_key a p = key_of (nat a p) (nat a (p + 1))

-- how many ints of an update come before its differences, by what is known of its size
abbrev pub head_length : Option ℕ → ℕ
head_length (some m) = 2
head_length none = 3

-- the place of the differences of the update at place p
unfoldable pub data_at : List ℤ → List ℤ → ℕ → ℕ
data_at sizes a p = p + head_length (known_size sizes (nat a p))

-- the known size, or else the one that is written at a place
abbrev pub size_or : List ℤ → ℕ → Option ℕ → ℕ
size_or a p (some m) = m
size_or a p none = nat a p

-- how many differences the update at place p has
unfoldable pub size_at : List ℤ → List ℤ → ℕ → ℕ
size_at sizes a p = size_or a (p + 2) (known_size sizes (nat a p))

-- the place after the update at place p
unfoldable pub update_end : List ℤ → List ℤ → ℕ → ℕ
update_end sizes a p = data_at sizes a p + size_at sizes a p

-- the update at place p
abbrev pub update_at : List ℤ → List ℤ → ℕ → Item
update_at sizes a p =
    record { key = update_key a p; values = take (size_at sizes a p) (drop (data_at sizes a p) a) }

-- n updates from place p on
unfoldable pub updates : List ℤ → List ℤ → ℕ → ℕ → List Item
updates sizes a p zero = []
updates sizes a p (suc n) = update_at sizes a p ∷ updates sizes a (update_end sizes a p) n

-- the delta that ints in form hold
abbrev pub delta_in : List ℤ → List ℤ → Delta
delta_in sizes a =
    record {
      deleted = list (deleted_at a) (num_deleted a);
      updated = updates sizes a (3 + num_deleted a) (num_updated a);
    }

-- the least rank that may follow the deleted keys before i
unfoldable pub lowest_rank : List ℤ → ℕ → ℕ
lowest_rank a zero = 0
lowest_rank a (suc i) = suc (rank (deleted_at a i))

-- the i-th deleted key is an int above the one before, as signed
unfoldable pub deleted_fits : List ℤ → ℕ → Bool
deleted_fits a i =
    leb (lowest_rank a i) (rank (deleted_at a i)) && ltb (mag (get_or a (3 + i) (pos 0))) (2 ^ 31)

-- type and id of the update at place p are of 16 bits, its key is of rank low or above, and it lies within the ints
unfoldable pub update_fits : List ℤ → List ℤ → ℕ → ℕ → Bool
update_fits sizes a p low =
    leb (p + 2) (length a)
    && (ltb (nat a p) 65536
    && (ltb (nat a (p + 1)) 65536
    && (leb (data_at sizes a p) (length a)
    && (ltb (size_at sizes a p) (2 ^ 32)
    && (leb (update_end sizes a p) (length a) && leb low (rank (update_key a p)))))))

-- n updates from place p on fit, one after the other
unfoldable pub updates_fit : List ℤ → List ℤ → ℕ → ℕ → ℕ → Bool
updates_fit sizes a p low zero = true
updates_fit sizes a p low (suc n) =
    update_fits sizes a p low
    && updates_fit sizes a (update_end sizes a p) (suc (rank (update_key a p))) n

-- whether some ints begin with a delta whose keys rise; what follows it is not judged
unfoldable pub delta_form : List ℤ → List ℤ → Bool
delta_form sizes a =
    leb 3 (length a)
    && (eqb (nat a 2) 0
    && (ltb (num_deleted a) (2 ^ 32)
    && (ltb (num_updated a) (2 ^ 32)
    && (leb (3 + num_deleted a) (length a)
    && (all (deleted_fits a) (num_deleted a)
    && updates_fit sizes a (3 + num_deleted a) 0 (num_updated a))))))

-- the delta that an area holds
unfoldable pub delta_of : List ℤ → Option Delta
delta_of a = cond (delta_form [] a) (some (delta_in [] a)) none
