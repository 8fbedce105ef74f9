-- Deltas packed and read back, and differences added back to their base.
use Rattle.std.specs.Prelude.{◌≤◌, ◌≡◌, refl, true, List, [], ◌∷◌, ℤ, length}
use Rattle.std.proofs.Common.{ap₂, arith, length-append, eqb-true}
use Rattle.std.proofs.Math.Option.{Option, some, none}
use Rattle.definitions.specs.Ints.{wrapping_add, wrapping_sub}
use Rattle.definitions.specs.Outcome.{return}
use Rattle.definitions.specs.Packed.{pack_ints, write_int}
use Rattle.definitions.specs.Stream.{stream}
use Rattle.definitions.specs.Deltas.{Delta, is_in_order, updates_ints, delta_ints}
use Rattle.definitions.specs.DeltaMaking.{zip_with, agree, differences, sums}
use Rattle.definitions.specs.DeltaCalls.{sizes_match}
use Rattle.definitions.specs.DeltaReading.{read_delta}
use Rattle.laws.specs.IntLaws.{wrapping_add-wrapping_sub}
use Rattle.laws.specs.PackLaws.{Whole, cons}
use Rattle.laws.specs.Shortest.{length-write_int}
use Rattle.laws.specs.DeltaReadBack.{stream-packed, apart, read_back, delta-read, length-delta_ints}

-- ---- packed

-- a delta that was packed is read back under the same known sizes, without a warning
pub delta-read-packed : (sizes : List ℤ) (d : Delta) → Whole (delta_ints sizes d) → is_in_order d ≡ true → sizes_match sizes d.updated ≡ true → apart d.deleted d.updated ≡ true → read_delta sizes (stream (pack_ints (delta_ints sizes d))) ≡ return (read_back d)
delta-read-packed sizes d w o m a = rw (stream-packed w) (delta-read sizes d o m a)

-- at least one byte an int
packs : (xs : List ℤ) → length xs ≤ length (pack_ints xs)
unfolding pack_ints
packs [] = omega arith
packs (x ∷ xs) = omega (arith, length-append (write_int x) (pack_ints xs), length-write_int x, packs xs)

-- the packed form is never empty
pub delta-packs : (sizes : List ℤ) (d : Delta) → 3 ≤ length (pack_ints (delta_ints sizes d))
delta-packs sizes d = omega (arith, packs (delta_ints sizes d), length-delta_ints sizes d)

-- the empty delta packs into three bytes
pub empty-packs : (sizes : List ℤ) → pack_ints (delta_ints sizes (record { deleted = []; updated = [] })) ≡ 0 ∷ 0 ∷ 0 ∷ []
unfolding pack_ints delta_ints write_int updates_ints
empty-packs sizes = refl

-- ---- differences

-- data that is there, of 32 bits each
pub data WholeData : Option (List ℤ) → Type 0 where
  absent : WholeData none
  there : {v : List ℤ} → Whole v → WholeData (some v)

back : (w v : List ℤ) → length w ≡ length v → Whole w → Whole v → zip_with wrapping_add w (zip_with wrapping_sub v w) ≡ v
back [] [] e hw hv = refl
back [] (x ∷ v) e hw hv = absurd (omega arith)
back (y ∷ w) [] e hw hv = absurd (omega arith)
back (y ∷ w) (x ∷ v) e (cons fy hw) (cons fx hv) =
    ap₂ (λ (a : ℤ) (l : List ℤ). a ∷ l) (wrapping_add-wrapping_sub fx fy) (back w v (omega arith) hw hv)

-- base + (target − base) = target, wrapping
pub sums-differences : (o : Option (List ℤ)) (v : List ℤ) → agree o v ≡ true → WholeData o → Whole v → sums o (differences o v) ≡ v
sums-differences none v e absent hv = refl
sums-differences (some w) v e (there hw) hv = back w v (eqb-true (length w) (length v) e) hw hv
