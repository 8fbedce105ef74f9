-- The warnings of reading a delta. Assumes nothing.
use Rattle.std.specs.Prelude.{◌≡◌, refl, Bool, true, false, cond, ℕ, ◌+◌}
use Rattle.std.proofs.Common.{ap, ap₂, ◌∙◌, zero-add, arith}
use Rattle.definitions.specs.Warnings.{Counts, count, DuplicateDelete, DuplicateUpdate, DeleteUpdate, NumUpdatedItems, one, plus}
use Rattle.definitions.specs.Warnings as Warnings
use Rattle.laws.specs.WarningLaws.{packed, counted_same}
use Rattle.format.specs.Sources.{counts_of, delta_counts}
use Rattle.delta_source.specs.Source.{odd_padding}

-- a warning of a kind, if there is cause
abbrev pub warned_if : Bool → Warnings.Warning → Counts
warned_if b k = cond b (one k) Warnings.none

-- those that come with the updates
abbrev pub update_counts : ℕ → ℕ → Counts
update_counts repeats crossing = delta_counts 0 false false repeats crossing false

-- ---- the same, put together from those of each step

-- a repeated update
repeat-counts : (b : Bool) → warned_if b DuplicateUpdate ≡ update_counts (cond b 1 0) 0
repeat-counts true = refl
repeat-counts false = refl

-- an update of a deleted key
crossing-counts : (b : Bool) → warned_if b DeleteUpdate ≡ update_counts 0 (cond b 1 0)
crossing-counts true = refl
crossing-counts false = refl

-- the order of five sums
moved : (v a b w u : Counts) → plus v (plus a (plus b (plus w u))) ≡ plus (plus v w) (plus a (plus b u))
moved v a b w u =
    counted_same (λ k. count v k + (count a k + (count b k + (count w k + count u k)))) (λ k. count v k + count w k + (count a k + (count b k + count u k)))
    (λ k. omega arith)

-- an update's warnings before those of the updates after it
pub counts-turn : (x y : Bool) (v w : Counts) (r c : ℕ) → plus v (plus (warned_if x DuplicateUpdate) (plus (warned_if y DeleteUpdate) (plus w (update_counts r c)))) ≡ plus (plus v w) (update_counts (cond x 1 0 + r) (cond y 1 0 + c))
counts-turn x y v w r c =
    moved v (warned_if x DuplicateUpdate) (warned_if y DeleteUpdate) w (update_counts r c)
    ∙ ap (plus (plus v w)) (ap₂ (λ (a b : Counts). plus a (plus b (update_counts r c))) (repeat-counts x) (crossing-counts y) ∙ sums (cond x 1 0) (cond y 1 0))
  where
    sums : (a b : ℕ) → plus (update_counts a 0) (plus (update_counts 0 b) (update_counts r c)) ≡ update_counts (a + r) (b + c)
    sums a b = rw (zero-add r, zero-add (b + c))

-- equal numbers of each kind
module _ {o d t r c u o2 d2 t2 r2 c2 u2 : ℕ} where
  -- counts are equal if each number is
  same : o ≡ o2 → d ≡ d2 → t ≡ t2 → r ≡ r2 → c ≡ c2 → u ≡ u2 → counts_of o d t r c u ≡ counts_of o2 d2 t2 r2 c2 u2
  same eo ed et er ec eu = λ i. counts_of (eo i) (ed i) (et i) (er i) (ec i) (eu i)

-- padding that is not 0
odd-counts : (b : Bool) → odd_padding b ≡ delta_counts 0 b false 0 0 false
odd-counts true = refl
odd-counts false = refl

-- a key deleted twice
twice-counts : (b : Bool) → warned_if b DuplicateDelete ≡ delta_counts 0 false b 0 0 false
twice-counts true = refl
twice-counts false = refl

-- a wrong count of updates
other-counts : (b : Bool) → warned_if b NumUpdatedItems ≡ delta_counts 0 false false 0 0 b
other-counts true = refl
other-counts false = refl

-- header, keys, updates, and the count of updates
pub counts_whole :
    (o o2 o3 r c : ℕ) (odd twice other : Bool) →
    plus (plus (packed o) (odd_padding odd))
    (plus (packed o2) (plus (warned_if twice DuplicateDelete)
    (plus (plus (packed o3) (update_counts r c)) (plus (warned_if other NumUpdatedItems) Warnings.none))))
    ≡ delta_counts (o + o2 + o3) odd twice r c other
counts_whole o o2 o3 r c odd twice other =
    rw (odd-counts odd, twice-counts twice, other-counts other)
    (same (omega arith) (omega arith) (omega arith) (omega arith) (omega arith) (omega arith))

-- header, keys and updates, after which one is refused
pub counts-broken :
    (o o2 o3 r c : ℕ) (odd twice : Bool) →
    plus (plus (packed o) (odd_padding odd)) (plus (packed o2) (plus (warned_if twice DuplicateDelete) (plus (packed o3) (update_counts r c))))
    ≡ delta_counts (o + o2 + o3) odd twice r c false
counts-broken o o2 o3 r c odd twice =
    rw (odd-counts odd, twice-counts twice)
    (same (omega arith) (omega arith) (omega arith) (omega arith) (omega arith) (omega arith))

-- header, and keys that are not all there
pub counts-refused : (o o2 : ℕ) (odd : Bool) → plus (plus (packed o) (odd_padding odd)) (packed o2) ≡ delta_counts (o + o2) odd false 0 0 false
counts-refused o o2 odd =
    rw (odd-counts odd) (same (omega arith) (omega arith) (omega arith) (omega arith) (omega arith) (omega arith))
