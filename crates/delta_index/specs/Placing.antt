-- What is known about the deleted keys and updates of a delta while it is read. Assumes nothing.
use Rattle.std.specs.Prelude.{◌≡◌, refl, Bool, true, false, ◌&&◌, List, [], ◌∷◌, ◌++◌, map, ℕ, suc, ◌≤◌, ◌<◌, ◌^◌, ltb}
use Rattle.std.proofs.Common.{ap, arith, lt-ltb, ne_eqb}
use Rattle.definitions.specs.Deltas.{rank}
use Rattle.sorting.specs.Pairs.{key, place}
use Rattle.sorting.specs.PairLaws.{key-pair, place-pair}
use Rattle.sorting.specs.SortLaws.{and_left, and_right}
use Rattle.delta_index.specs.Entries.{Placed, updated_entry, is_deleted}

-- strictly rising places, from low on and below high
pub data Places : ℕ → ℕ → List Placed → Type 0 where
  none : {low high : ℕ} → low ≤ high → Places low high []
  more : {low high : ℕ} {u : Placed} {l : List Placed} → low ≤ u.place → Places (suc u.place) high l → Places low high (u ∷ l)

-- the key of an update
abbrev pub update_key : Placed → ℕ
update_key u = u.item.key

-- whether all keys have 32 bits
unfoldable pub keys_fit : List ℕ → Bool
keys_fit [] = true
keys_fit (k ∷ l) = ltb k (2 ^ 32) && keys_fit l

-- deleted keys and updates as they were read, all updates before place high
pub record Entered (deleted : List ℕ) (updated : List Placed) (high : ℕ) : Type 0 where
  pub deleted_fit : keys_fit deleted ≡ true
  pub updated_fit : keys_fit (map update_key updated) ≡ true
  pub places : Places 1 high updated
  pub bound : high ≤ 2 ^ 32

-- ---- one more entry

-- one more key at the end
pub fit-snoc : (l : List ℕ) (k : ℕ) → keys_fit l ≡ true → k < 2 ^ 32 → keys_fit (l ++ k ∷ []) ≡ true
unfolding keys_fit
fit-snoc [] k e h = rw (lt-ltb k (2 ^ 32) h)
fit-snoc (j ∷ l) k e h = rw (and_left (ltb j (2 ^ 32)) (keys_fit l) e) (fit-snoc l k (and_right (ltb j (2 ^ 32)) (keys_fit l) e) h)

-- one more update at the end
pub places-snoc : (low high : ℕ) (l : List Placed) (u : Placed) → Places low high l → high ≤ u.place → Places low (suc u.place) (l ++ u ∷ [])
places-snoc low high [] u (none h) k = more {low = low} {u = u} (omega arith) (none {low = suc u.place} {high = suc u.place} (omega arith))
places-snoc low high (v ∷ l) u (more h p) k = more h (places-snoc (suc v.place) high l u p k)

-- places below high are below anything above it
pub places-wider : (low high top : ℕ) (l : List Placed) → Places low high l → high ≤ top → Places low top l
places-wider low high top [] (none h) k = none {low = low} {high = top} (omega arith)
places-wider low high top (u ∷ l) (more h p) k = more h (places-wider (suc u.place) high top l p k)

-- the keys with one more update
keys-snoc : (l : List Placed) (u : Placed) → map update_key (l ++ u ∷ []) ≡ map update_key l ++ update_key u ∷ []
keys-snoc [] u = refl
keys-snoc (v ∷ l) u = ap (λ (t : List ℕ). update_key v ∷ t) (keys-snoc l u)

-- nothing was read; the updates begin at high or later
pub entered-none : (high : ℕ) → 1 ≤ high → high ≤ 2 ^ 32 → Entered [] [] high
unfolding keys_fit
entered-none high l h = record { deleted_fit = refl; updated_fit = refl; places = none l; bound = h }

-- one more deleted key
pub entered-deleted : (deleted : List ℕ) (updated : List Placed) (high k : ℕ) → Entered deleted updated high → k < 2 ^ 32 → Entered (deleted ++ k ∷ []) updated high
entered-deleted deleted updated high k e h =
    record { deleted_fit = fit-snoc deleted k e.deleted_fit h; updated_fit = e.updated_fit; places = e.places; bound = e.bound }

-- one more update, which ends at top or before
pub entered-updated : (deleted : List ℕ) (updated : List Placed) (high top : ℕ) (u : Placed) → Entered deleted updated high → update_key u < 2 ^ 32 → high ≤ u.place → u.place < top → top ≤ 2 ^ 32 → Entered deleted (updated ++ u ∷ []) top
entered-updated deleted updated high top u e k h g b =
    record {
      deleted_fit = e.deleted_fit;
      updated_fit = rw (keys-snoc updated u) (fit-snoc (map update_key updated) (update_key u) e.updated_fit k);
      places = places-wider 1 (suc u.place) top (updated ++ u ∷ []) (places-snoc 1 high updated u e.places h) g;
      bound = b;
    }

-- ---- one entry

-- the lower bound is at most the upper one
pub places-order : (low high : ℕ) (l : List Placed) → Places low high l → low ≤ high
places-order low high [] (none h) = h
places-order low high (u ∷ l) (more h p) = omega (arith, places-order (suc u.place) high l p)

module _ (u : Placed) (h : u.place < 2 ^ 32) where
  pub updated-key : key (updated_entry u) ≡ rank (update_key u)
  updated-key = key-pair (rank (update_key u)) u.place h

  pub updated-place : place (updated_entry u) ≡ u.place
  updated-place = place-pair (rank (update_key u)) u.place h

  -- an update is not a deleted key
  pub updated-entry : 0 < u.place → is_deleted (updated_entry u) ≡ false
  updated-entry g = let d : place (updated_entry u) ≡ 0 → ⊥ = λ q. omega (arith, updated-place) in ne_eqb (place (updated_entry u)) 0 d
