-- Kinds in classes by their first halves, and what sorted pairs say about them. Assumes nothing.
use Rattle.std.specs.Prelude.{◌≡◌, cond, List, ℕ, ◌+◌, ◌*◌, ◌/◌, ◌%◌, ◌≤◌, ◌<◌, eqb, ℤ, pos, length, get_or}
use Rattle.definitions.specs.Ints.{bits}
use Rattle.definitions.specs.Tables.{list}
use Rattle.sorting.specs.Pairs.{pair, key, place}
use Rattle.types.specs.Picks.{key_in, values_of}

-- the i-th 16-bit half of some ints, the upper half of each int first
unfoldable pub half : List ℤ → ℕ → ℕ
half v i = cond (eqb (i % 2) 0) (bits (get_or v (i / 2) (pos 0)) / 65536) (bits (get_or v (i / 2) (pos 0)) % 65536)

-- the halves of the item at a place of an index
abbrev pub halves : List ℤ → List ℕ → ℕ → ℕ → ℕ
halves a index j i = half (values_of a index j) i

-- the first m of n items have four ints or more
pub record Whole (a : List ℤ) (index : List ℕ) (n m : ℕ) : Type 0 where
  pub some : m ≤ n
  pub long : (j : ℕ) → j < m → 4 ≤ length (values_of a index j)

-- r is how many of the first z items are whole, up to the first that is not
pub record WholeUpTo (a : List ℤ) (index : List ℕ) (n z r : ℕ) : Type 0 where
  pub whole : Whole a index n r
  pub upto : r ≤ z
  pub short : r < z → length (values_of a index r) < 4

-- the first z of n items are those of type 0
pub record KindsFirst (a : List ℤ) (index : List ℕ) (n z : ℕ) : Type 0 where
  pub some : z ≤ n
  pub kinds : (j : ℕ) → j < z → key_in a index j < 65536

-- the first k numbers of two rows are equal
abbrev pub Agree : (ℕ → ℕ → ℕ) → ℕ → ℕ → ℕ → Type 0
Agree g k i j = (h : ℕ) → h < k → g i h ≡ g j h

-- v is the first row that agrees with row j
pub record First (g : ℕ → ℕ → ℕ) (k j v : ℕ) : Type 0 where
  pub same : Agree g k v j
  pub least : (i : ℕ) → i < v → Agree g k i j → ⊥

-- for each of m rows, the first row that agrees with it
abbrev pub Firsts : (ℕ → ℕ → ℕ) → ℕ → ℕ → List ℕ → Type 0
Firsts g k m c = (j : ℕ) → j < m → First g k j (get_or c j 0)

-- the class of a row and its next number, as one key
abbrev pub key_with : (ℕ → ℕ → ℕ) → List ℕ → ℕ → ℕ → ℕ
key_with g c k j = get_or c j 0 * 65536 + g j k

-- these keys of m rows, with the number of each row
abbrev pub keyed : (ℕ → ℕ → ℕ) → List ℕ → ℕ → ℕ → List ℕ
keyed g c k m = list (λ j. pair (key_with g c k j) j) m

-- m rising pairs, with places below m and one key at each place
pub record SortedPairs (f : ℕ → ℕ) (m : ℕ) : Type 0 where
  pub rise : (p q : ℕ) → p ≤ q → q < m → f p ≤ f q
  pub within : (q : ℕ) → q < m → place (f q) < m
  pub once : (p q : ℕ) → p < m → q < m → place (f p) ≡ place (f q) → key (f p) ≡ key (f q)

-- v is the least place of the pairs with the key of pair q
pub record Leader (f : ℕ → ℕ) (m q v : ℕ) : Type 0 where
  pub at : ℕ
  pub within : at < m
  pub place_is : place (f at) ≡ v
  pub same : key (f at) ≡ key (f q)
  pub least : (p : ℕ) → p < m → key (f p) ≡ key (f q) → v ≤ place (f p)

-- the leaders of the first k pairs, at their places
abbrev pub Leaders : (ℕ → ℕ) → ℕ → ℕ → List ℕ → Type 0
Leaders f m k c = (q : ℕ) → q < k → Leader f m q (get_or c (place (f q)) 0)
