-- The signed walk of a table: its written order turned at 2^31. Assumes nothing.
use Rattle.std.specs.Prelude.{ℕ, zero, suc, ◌+◌, ◌-◌, ◌<◌, ◌≤◌, ◌^◌, ◌≡◌, Bool, cond, true, false, ◌&&◌, [], ◌∷◌, ◌++◌, ℤ, length, take, drop, leb}
use Rattle.std.proofs.Math.Path.{refl}
use Rattle.std.proofs.Common.{sym, ap, ◌∙◌, ⊎_elim, append_assoc, append-nil, eq-or-lt_of_le, le_of_suc-le-suc, arith, length-append, take-append-drop, leb-true, ltb-true, le-leb, lt-ltb}
use Rattle.std.proofs.Math.Option.{some, none}
use Rattle.std.proofs.lemmas.Bool.{lt-leb}
use Rattle.definitions.specs.Ints.{from_bits, wrapping_add, signed_less, sum}
use Rattle.definitions.specs.Tables.{Item, Table, rising, list, negatives, positives, walk, all_values, crc}
use Rattle.definitions.specs.TableCalls.{nth}
use Rattle.laws.specs.Tests.{below}
use Rattle.laws.specs.IntLaws.{bits-from_bits, from_bits-fits, wrapping_add-comm, wrapping_add-assoc, sum-append, sum_fits, zero-wrapping_add, turned, signed_less-turned}
use Rattle.laws.specs.TableShape.{both}
use Rattle.laws.specs.TableForm.{length-list}

-- ---- the sum

-- all data of two tables, one behind the other
pub all_values-append : (t u : Table) → all_values (t ++ u) ≡ all_values t ++ all_values u
unfolding all_values
all_values-append [] u = refl
all_values-append (x ∷ t) u = rw (all_values-append t u) (sym (append_assoc x.values (all_values t) (all_values u)))

-- the sum of two tables, one behind the other
pub crc-append : (t u : Table) → crc (t ++ u) ≡ wrapping_add (crc t) (crc u)
crc-append t u = rw (all_values-append t u) (sum-append (all_values t) (all_values u))

-- the sum of a table with one item before it
pub crc-cons : (x : Item) (t : Table) → crc (x ∷ t) ≡ wrapping_add (sum x.values) (crc t)
unfolding all_values
crc-cons x t = sum-append x.values (all_values t)

between : (n v p : ℤ) → wrapping_add n (wrapping_add v p) ≡ wrapping_add v (wrapping_add n p)
between n v p = sym (wrapping_add-assoc n v p) ∙ rw (wrapping_add-comm n v) (wrapping_add-assoc v n p)

-- one item more on either side
more : (b : Bool) (x : Item) (n p t : Table) → wrapping_add (crc n) (crc p) ≡ crc t → wrapping_add (crc (cond b (x ∷ n) n)) (crc (cond b p (x ∷ p))) ≡ crc (x ∷ t)
more true x n p t e =
    rw (crc-cons x n, crc-cons x t, ← e) (wrapping_add-assoc (sum x.values) (crc n) (crc p))
more false x n p t e = rw (crc-cons x p, crc-cons x t, ← e) (between (crc n) (sum x.values) (crc p))

parts-sum : (t : Table) → wrapping_add (crc (negatives t)) (crc (positives t)) ≡ crc t
unfolding negatives positives
parts-sum [] = unfold all_values in zero-wrapping_add (sum_fits [])
parts-sum (x ∷ t) = more (leb (2 ^ 31) x.key) x (negatives t) (positives t) t (parts-sum t)

-- both orders of a table have one sum
pub crc-walk : (t : Table) → crc (walk t) ≡ crc t
crc-walk t = crc-append (negatives t) (positives t) ∙ parts-sum t

-- ---- the written order turned

-- each half of two tables, one behind the other
pub negatives-append : (t u : Table) → negatives (t ++ u) ≡ negatives t ++ negatives u
unfolding negatives
negatives-append [] u = refl
negatives-append (x ∷ t) u = go (leb (2 ^ 31) x.key) (negatives-append t u)
  where
    go : (b : Bool) → negatives (t ++ u) ≡ negatives t ++ negatives u → cond b (x ∷ negatives (t ++ u)) (negatives (t ++ u)) ≡ cond b (x ∷ negatives t) (negatives t) ++ negatives u
    go true e = ap (λ (l : Table). x ∷ l) e
    go false e = e

pub positives-append : (t u : Table) → positives (t ++ u) ≡ positives t ++ positives u
unfolding positives
positives-append [] u = refl
positives-append (x ∷ t) u = go (leb (2 ^ 31) x.key) (positives-append t u)
  where
    go : (b : Bool) → positives (t ++ u) ≡ positives t ++ positives u → cond b (positives (t ++ u)) (x ∷ positives (t ++ u)) ≡ cond b (positives t) (x ∷ positives t) ++ positives u
    go true e = e
    go false e = ap (λ (l : Table). x ∷ l) e

-- no key is negative as signed
pub record Low (t : Table) : Type 0 where
  pub negatives-are : negatives t ≡ []
  pub positives-are : positives t ≡ t

-- every key is negative as signed
pub record High (t : Table) : Type 0 where
  pub negatives-are : negatives t ≡ t
  pub positives-are : positives t ≡ []

-- the keys from 2^31 on come first
pub walk-turned : (t u : Table) → Low t → High u → walk (t ++ u) ≡ u ++ t
walk-turned t u l h =
    rw (negatives-append t u, positives-append t u, l.negatives-are, l.positives-are, h.negatives-are, h.positives-are, append-nil t)

low-cons : (x : Item) (t : Table) → x.key < 2 ^ 31 → Low t → Low (x ∷ t)
unfolding negatives positives
low-cons x t k l =
    let e : leb (2 ^ 31) x.key ≡ false = lt-leb _ _ k in
    record { negatives-are = rw e l.negatives-are; positives-are = rw e (ap (λ (r : Table). x ∷ r) l.positives-are) }

high-cons : (x : Item) (t : Table) → 2 ^ 31 ≤ x.key → High t → High (x ∷ t)
unfolding negatives positives
high-cons x t k h =
    let e : leb (2 ^ 31) x.key ≡ true = le-leb _ _ k in
    record { negatives-are = rw e (ap (λ (r : Table). x ∷ r) h.negatives-are); positives-are = rw e h.positives-are }

low-append : (t u : Table) → Low t → Low u → Low (t ++ u)
low-append t u l k =
    record { negatives-are = rw (negatives-append, l.negatives-are, k.negatives-are); positives-are = rw (positives-append, l.positives-are, k.positives-are) }

high-append : (t u : Table) → High t → High u → High (t ++ u)
high-append t u h k =
    record { negatives-are = rw (negatives-append, h.negatives-are, k.negatives-are); positives-are = rw (positives-append, h.positives-are, k.positives-are) }

-- what the order of keys says about the first item and those after it
pub record Rises (low : ℕ) (x : Item) (t : Table) : Type 0 where
  pub from : low ≤ x.key
  pub whole : x.key < 2 ^ 32
  pub rest : rising (suc x.key) t ≡ true

pub rises : (low : ℕ) (x : Item) (t : Table) → rising low (x ∷ t) ≡ true → Rises low x t
unfolding rising
rises low x t e =
    let p = both (leb low x.key) _ e in
    let q = both _ _ p.1 in
    record { from = leb-true _ _ p.0; whole = ltb-true _ _ q.0; rest = q.1 }

-- the same, from the facts
pub rise : (low : ℕ) (x : Item) (t : Table) → Rises low x t → rising low (x ∷ t) ≡ true
unfolding rising
rise low x t r = rw (le-leb low x.key r.from, lt-ltb x.key (2 ^ 32) r.whole) r.rest

-- keys that rise from a number on rise from each lesser one on
pub rising-less : (low high : ℕ) (t : Table) → low ≤ high → rising high t ≡ true → rising low t ≡ true
rising-less low high [] l e = unfold rising in refl
rising-less low high (x ∷ t) l e =
    let r = rises high x t e in
    rise low x t (record { from = omega arith; whole = r.whole; rest = r.rest })

none-low : Low []
unfolding negatives positives
none-low = record { negatives-are = refl; positives-are = refl }

none-high : High []
unfolding negatives positives
none-high = record { negatives-are = refl; positives-are = refl }

all-high : (low : ℕ) (t : Table) → 2 ^ 31 ≤ low → rising low t ≡ true → High t
all-high low [] l e = none-high
all-high low (x ∷ t) l e =
    let r = rises low x t e in high-cons x t (omega arith) (all-high (suc x.key) t (omega arith) r.rest)

two-parts : (low : ℕ) (t : Table) → rising low t ≡ true → Low (take (length (positives t)) t) × High (drop (length (positives t)) t)
unfolding positives
two-parts low [] e = (none-low, none-high)
two-parts low (x ∷ t) e =
    let r = rises low x t e in
    ⊎_elim
    (λ (k : x.key < 2 ^ 31).
    let more = two-parts (suc x.key) t r.rest in
    rw (lt-leb (2 ^ 31) x.key k) (low-cons x _ k more.0, more.1))
    (λ (k : 2 ^ 31 ≤ x.key).
    let high = all-high (suc x.key) t (omega arith) r.rest in
    rw (le-leb (2 ^ 31) x.key k, high.positives-are) (none-low, high-cons x t k high))
    (below x.key (2 ^ 31))

-- the walk of a table whose keys rise: first the items from the m-th on, then the first m, where m keys are below 2^31
pub walk_is : (t : Table) → rising 0 t ≡ true → walk t ≡ drop (length (positives t)) t ++ take (length (positives t)) t
walk_is t e =
    let m = length (positives t) in
    let p = two-parts 0 t e in
    ap walk (sym (take-append-drop m t)) ∙ walk-turned (take m t) (drop m t) p.0 p.1

-- ---- the walk's keys

-- each key is less than the next, read as signed
unfoldable pub signed_rising : Table → Bool
signed_rising [] = true
signed_rising (x ∷ []) = true
signed_rising (x ∷ y ∷ t) = signed_less (from_bits x.key) (from_bits y.key) && signed_rising (y ∷ t)

-- turned keys that rise, from low on
abbrev pub Turning : ℕ → Table → Type 0
Turning low [] = Unit {0}
Turning low (x ∷ t) = (low ≤ turned x.key) × (x.key < 2 ^ 32) × Turning (suc (turned x.key)) t

lower : {low high : ℕ} (t : Table) → low ≤ high → Turning high t → Turning low t
lower [] l h = tt
lower (x ∷ t) l h = (omega arith, h.1, h.2)

positives-turn : (low : ℕ) (t : Table) → rising low t ≡ true → Turning (low + 2 ^ 31) (positives t)
unfolding positives
positives-turn low [] e = tt
positives-turn low (x ∷ t) e =
    let r = rises low x t e in
    let rest = positives-turn (suc x.key) t r.rest in
    ⊎_elim
    (λ (k : x.key < 2 ^ 31). rw (lt-leb (2 ^ 31) x.key k) (omega arith, r.whole, lower (positives t) (omega arith) rest))
    (λ (k : 2 ^ 31 ≤ x.key). rw (le-leb (2 ^ 31) x.key k) (lower (positives t) (omega arith) rest))
    (below x.key (2 ^ 31))

negatives-turn : (low : ℕ) (t u : Table) → low ≤ 2 ^ 32 → rising low t ≡ true → Turning (2 ^ 31) u → Turning (low - 2 ^ 31) (negatives t ++ u)
unfolding negatives
negatives-turn low [] u w e h = lower u (omega arith) h
negatives-turn low (x ∷ t) u w e h =
    let r = rises low x t e in
    let rest = negatives-turn (suc x.key) t u (omega arith) r.rest h in
    ⊎_elim
    (λ (k : x.key < 2 ^ 31). rw (lt-leb (2 ^ 31) x.key k) (lower (negatives t ++ u) (omega arith) rest))
    (λ (k : 2 ^ 31 ≤ x.key). rw (le-leb (2 ^ 31) x.key k) (omega arith, r.whole, lower (negatives t ++ u) (omega arith) rest))
    (below x.key (2 ^ 31))

turning-signed : (low : ℕ) (t : Table) → Turning low t → signed_rising t ≡ true
unfolding signed_rising
turning-signed low [] h = refl
turning-signed low (x ∷ []) h = refl
turning-signed low (x ∷ y ∷ t) h =
    let less = signed_less-turned (from_bits x.key) (from_bits y.key) (from_bits-fits h.1) (from_bits-fits h.2.1) in
    rw (less, bits-from_bits h.1, bits-from_bits h.2.1, lt-ltb (turned x.key) (turned y.key) h.2.0)
    (turning-signed (suc (turned x.key)) (y ∷ t) h.2)

-- the walk's turned keys rise
pub walk-turns : (t : Table) → rising 0 t ≡ true → Turning 0 (walk t)
walk-turns t e = negatives-turn 0 t (positives t) (omega arith) e (positives-turn 0 t e)

-- the walk's keys rise as signed
pub walk-rises : (t : Table) → rising 0 t ≡ true → signed_rising (walk t) ≡ true
walk-rises t e = turning-signed 0 (walk t) (walk-turns t e)

-- ---- by place

-- the i-th of two tables, one behind the other
pub nth_left : (t u : Table) (i : ℕ) → i < length t → nth (t ++ u) i ≡ nth t i
nth_left [] u i l = absurd (omega arith)
nth_left (x ∷ t) u zero l = refl
nth_left (x ∷ t) u (suc i) l = nth_left t u i (omega arith)

pub nth_right : (t u : Table) (i j : ℕ) → i ≡ length t + j → nth (t ++ u) i ≡ nth u j
nth_right [] u i j e = let d : i ≡ j = omega arith in ap (nth u) d
nth_right (x ∷ t) u zero j e = absurd (omega arith)
nth_right (x ∷ t) u (suc i) j e = nth_right t u i j (omega arith)

-- past the end there is none
pub nth_past : (t : Table) (i : ℕ) → length t ≤ i → nth t i ≡ none
nth_past [] i l = refl
nth_past (x ∷ t) zero l = absurd (omega arith)
nth_past (x ∷ t) (suc i) l = nth_past t i (omega arith)

-- the i-th of the items that were listed
pub nth-list : (f : ℕ → Item) (k i : ℕ) → i < k → nth (list f k) i ≡ some (f i)
unfolding list
nth-list f zero i l = absurd (omega arith)
nth-list f (suc k) i l =
    ⊎_elim
    (λ (q : i ≡ k). nth_right (list f k) (f k ∷ []) i 0 (omega (arith, length-list f k)) ∙ rw q)
    (λ (m : i < k). nth_left (list f k) (f k ∷ []) i (omega (arith, length-list f k)) ∙ nth-list f k i m)
    (eq-or-lt_of_le (le_of_suc-le-suc l))

-- a list in two parts
pub list-add : (f : ℕ → Item) (m j : ℕ) → list f (m + j) ≡ list f m ++ list (λ i. f (m + i)) j
unfolding list
list-add f m zero = let e : m + 0 ≡ m = omega arith in rw e (sym (append-nil (list f m)))
list-add f m (suc j) =
    let e : m + suc j ≡ suc (m + j) = omega arith in
    rw (e, list-add f m j) (append_assoc (list f m) (list (λ i. f (m + i)) j) (f (m + j) ∷ []))

low-list : (f : ℕ → Item) (k : ℕ) → ((i : ℕ) → i < k → (f i).key < 2 ^ 31) → Low (list f k)
unfolding list
low-list f zero h = none-low
low-list f (suc k) h =
    low-append (list f k) (f k ∷ []) (low-list f k (λ i l. h i (omega arith)))
    (low-cons (f k) [] (h k (omega arith)) none-low)

high-list : (f : ℕ → Item) (k : ℕ) → ((i : ℕ) → i < k → 2 ^ 31 ≤ (f i).key) → High (list f k)
unfolding list
high-list f zero h = none-high
high-list f (suc k) h =
    high-append (list f k) (f k ∷ []) (high-list f k (λ i l. h i (omega arith)))
    (high-cons (f k) [] (h k (omega arith)) none-high)

-- items listed by place, of which the first m have keys below 2^31 and the others have not
module _ (f : ℕ → Item) (m j : ℕ) (low : (i : ℕ) → i < m → (f i).key < 2 ^ 31) (high : (i : ℕ) → i < j → 2 ^ 31 ≤ (f (m + i)).key) where
  abbrev pub late : ℕ → Item
  late i = f (m + i)

  pub walk-list : walk (list f (m + j)) ≡ list late j ++ list f m
  walk-list =
      ap walk (list-add f m j)
      ∙ walk-turned (list f m) (list late j) (low-list f m low) (high-list late j high)

  -- the walk begins with the item at m
  pub nth-late : (i : ℕ) → i < j → nth (walk (list f (m + j))) i ≡ some (f (m + i))
  nth-late i l =
      rw walk-list
      (nth_left (list late j) (list f m) i (omega (arith, length-list late j)) ∙ nth-list late j i l)

  -- and goes on with the first one
  pub nth-early : (i : ℕ) → i < m → nth (walk (list f (m + j))) (j + i) ≡ some (f i)
  nth-early i l =
      rw walk-list
      (nth_right (list late j) (list f m) (j + i) i (omega (arith, length-list late j)) ∙ nth-list f m i l)

-- ---- how many there are

parts-length : (t : Table) → length (negatives t) + length (positives t) ≡ length t
unfolding negatives positives
parts-length [] = refl
parts-length (x ∷ t) =
    ⊎_elim
    (λ (k : x.key < 2 ^ 31). rw (lt-leb (2 ^ 31) x.key k) (omega (arith, parts-length t)))
    (λ (k : 2 ^ 31 ≤ x.key). rw (le-leb (2 ^ 31) x.key k) (omega (arith, parts-length t)))
    (below x.key (2 ^ 31))

-- the walk has as many items as the table
pub length-walk : (t : Table) → length (walk t) ≡ length t
length-walk t = length-append (negatives t) (positives t) ∙ parts-length t
