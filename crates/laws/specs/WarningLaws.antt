-- Laws of warning counts. Assumes nothing.
use Rattle.std.specs.Prelude.{◌≡◌, refl, Bool, true, false, cond, ℕ, ◌+◌, eqb}
use Rattle.std.proofs.Common.{add_assoc, add_comm, add-zero, zero-add}
use Rattle.definitions.specs.Warnings.{Warning, Counts, OverlongIntEncoding, index, count, counted, none, plus}
use Rattle.definitions.specs.Packed.{warned}

-- equal numbers for each kind are equal counts
pub counted_same : (f g : Warning → ℕ) → ((k : Warning) → f k ≡ g k) → counted f ≡ counted g
counted_same f g e = λ i. counted (λ k. e k i)

-- no warning adds nothing
pub none-plus : (c : Counts) → plus none c ≡ c
none-plus c = counted_same (λ k. 0 + count c k) (λ k. count c k) (λ k. zero-add (count c k))

pub plus_none : (c : Counts) → plus c none ≡ c
plus_none c = counted_same (λ k. count c k + 0) (λ k. count c k) (λ k. add-zero (count c k))

pub plus_assoc : (a b c : Counts) → plus (plus a b) c ≡ plus a (plus b c)
plus_assoc a b c =
    counted_same (λ k. count a k + count b k + count c k) (λ k. count a k + (count b k + count c k))
    (λ k. add_assoc (count a k) (count b k) (count c k))

pub plus_comm : (a b : Counts) → plus a b ≡ plus b a
plus_comm a b =
    counted_same (λ k. count a k + count b k) (λ k. count b k + count a k) (λ k. add_comm (count a k) (count b k))

-- ---- counts, kind by kind

-- the counts with another number for a kind
abbrev pub set : Warning → ℕ → Counts → Counts
set w n c = counted (λ k. cond (eqb (index k) (index w)) n (count c k))

-- ---- the packer's warning

-- counts of the packer's kind alone
abbrev pub packed : ℕ → Counts
packed o = set OverlongIntEncoding o none

-- an integer's warnings
pub warned-packed : (overlong : Bool) → warned overlong ≡ packed (cond overlong 1 0)
warned-packed true = refl
warned-packed false = refl
