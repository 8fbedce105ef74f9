-- Room in lent areas: a call is not refused for want of it, or the areas are long enough whatever comes. Assumes nothing.
use Rattle.std.specs.Prelude.{◌≡◌, refl, false, List, ℕ, ◌≤◌, leb, length}
use Rattle.std.proofs.Common.{arith, leb-false}
use Rattle.definitions.specs.Refusals.{capacity_error}
use Rattle.definitions.specs.Warnings.{Counts}
use Rattle.definitions.specs.Outcome.{Outcome, err}
use Rattle.definitions.specs.Storage.{StoredSnap}
use Rattle.laws.specs.StoreForm.{Sounds, store_room}
use Rattle.laws.specs.StoreRoom.{room_most}
use Rattle.session.specs.Lengths.{store_area_ints, delta_area_ints}
use Rattle.session.specs.Statement.{Suffices}

-- an outcome is no refusal for want of room, or some areas are long enough
pub data Room {A : Type 0} (Long : Type 0) (o : Outcome A) : Type 0 where
  told : Suffices o → Room Long o
  long : Long → Room Long o

-- where some areas are long enough, others are
pub room-map : {A P Q : Type 0} {o : Outcome A} → (P → Q) → Room P o → Room Q o
room-map f (told s) = told s
room-map f (long l) = long (f l)

-- a result of k entries is not refused by an area of m, where long areas have room for it
pub no_room : {A Long : Type 0} {w : Counts} (k m : ℕ) → (Long → k ≤ m) → leb k m ≡ false → Room {A = A} Long (err capacity_error w) → ⊥
no_room k m f e (told s) = s.0 refl
no_room k m f e (long l) = let h : k ≤ m = f l in omega (arith, leb-false k m e)

-- a store's area is long enough
abbrev pub StoreLong : ℕ → Type 0
StoreLong n = store_area_ints ≤ n

-- a store's area of n ints and a delta area of m are long enough
abbrev pub BothLong : ℕ → ℕ → Type 0
BothLong n m = StoreLong n × (delta_area_ints ≤ m)

-- an area that always suffices has room for 100 sound tables
pub store-most : {l : List StoredSnap} → Sounds l → length l ≤ 100 → store_room l ≤ store_area_ints
store-most h few = omega (arith, room_most h)
