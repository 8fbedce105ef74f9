-- A delta that was weighed: refused for lack of room, or written. Assumes nothing.
use mathlib.Core.Path.{◌≡◌, ap, ◌∙◌, subst}
use mathlib.Core.List.{List, [], ◌∷◌, ◌++◌, map}
use Prim.Native.Nat.{ℕ, ◌+◌, ◌≤◌, ◌<◌, ◌^◌}
use native.Mathlib.Omega.{arith}
use lib.IntN.{ℤ, pos}
use lib.ListN.{length}
use Rattle.definitions.specs.Ints.{bits, from_bits}
use Rattle.definitions.specs.Areas.{lay_at}
use Rattle.definitions.specs.Refusals.{capacity_error}
use Rattle.definitions.specs.Warnings.{Counts, none}
use Rattle.definitions.specs.Outcome.{Outcome, ok, err}
use Rattle.definitions.specs.Tables.{Item}
use Rattle.definitions.specs.Deltas.{updates_ints, written_delta}
use Rattle.definitions.specs.DeltaReading.{ordered_keys, ordered_updates, delta_read}
use Rattle.definitions.specs.DeltaCalls.{stored_delta}
use Rattle.laws.specs.AreaLaws.{length-lay_at}
use Rattle.delta_index.specs.declared.checked.Tally.{Tally}
use Rattle.delta_source.specs.Source.{Source, size}
use Rattle.delta_entries.specs.Told.{Told}
use Rattle.delta_any_order.specs.Fronts.{Weighs, Laid}
use Rattle.delta_any_order.specs.declared.checked.Front.{Front}
use Rattle.delta_any_order.proofs.Storing.{no_room, whole-fits, updates-laid, stored-whole}
use Rattle.delta_any_order.specs.OrderLaws.{few-deleted}
use Rattle.delta_any_order.proofs.Fronting.{same-values, same-items}

module _ {s : Source} {sizes : List ℤ} {f : Front} {n room : ℕ} {t : Tally} (W : Weighs s sizes f n room t) where
  -- the counts are ints
  pub few-counts : size s ≤ 1048576 → (t.deleted < 2 ^ 31) × (t.updated < 2 ^ 31)
  few-counts h =
      (omega (arith, W.tallied.deleted-is, few-deleted W.values, W.key-count, W.few-keys), omega (arith, W.few-updates, W.more_room, W.few-room))

  -- what holds of the keys and the updates that were weighed holds of all such keys and updates
  settled : (P : List ℤ → List Item → Type 0) → P W.values W.items → (values : List ℤ) (items : List Item) → Told s sizes f.keys f.deleted f.first n values items → P values items
  settled P h values items T = subst (λ (v : List ℤ). P v items) (same-values W.told T) (subst (P W.values) (same-items W.told T) h)

  module _ (out : List ℤ) where
    -- the result of storing
    abbrev Comes : Outcome ℕ → List ℤ → Counts → List ℤ → List Item → Type 0
    Comes a last w values items = stored_delta out (ok (delta_read (map bits values) items) w) ≡ record { answer = a; out = last }

    -- it does not fit
    pub weighed-refused : length out < 3 + f.deleted + room → (values : List ℤ) (items : List Item) (w : Counts) → Told s sizes f.keys f.deleted f.first n values items → stored_delta out (ok (delta_read (map bits values) items) w) ≡ record { answer = err capacity_error w; out = out }
    weighed-refused h values items w T =
        settled (Comes (err capacity_error w) out w) (no_room out W.values W.items f.deleted room w W.key-count W.room-is h) values items T

    module _ (h : 3 + f.deleted + room ≤ length out) (o1 : List ℤ) (e1 : o1 ≡ lay_at 0 (pos t.deleted ∷ pos t.updated ∷ pos 0 ∷ []) out) where
      -- the keys were counted, and all has room
      abbrev Fits : List ℤ → List Item → Type 0
      Fits values items = (t.deleted ≡ length (ordered_keys (map bits values))) × (3 + t.deleted + length (updates_ints [] (ordered_updates items)) ≤ length o1)

      -- the same for all such keys and updates
      pub weighed-room : (values : List ℤ) (items : List Item) → Told s sizes f.keys f.deleted f.first n values items → (t.deleted ≡ length (ordered_keys (map bits values))) × (3 + t.deleted + length (updates_ints [] (ordered_updates items)) ≤ length o1)
      weighed-room =
          settled Fits
          (W.tallied.deleted-is, omega (arith, W.tallied.deleted-is, whole-fits out W.values W.items f.deleted room none W.key-count W.room-is h, ap length e1, length-lay_at 0 (pos t.deleted ∷ pos t.updated ∷ pos 0 ∷ []) out))

      module _ (o2 : List ℤ) (e2 : (values : List ℤ) (items : List Item) → Told s sizes f.keys f.deleted f.first n values items → o2 ≡ lay_at 3 (map from_bits (ordered_keys (map bits values)) ++ updates_ints [] (ordered_updates items)) o1) where
        -- the header
        first-is : o1 ≡ lay_at 0 (pos (length (ordered_keys (map bits W.values))) ∷ pos (length (ordered_updates W.items)) ∷ pos 0 ∷ []) out
        first-is = e1 ∙ rw (W.tallied.deleted-is, W.tallied.updated-is)

        -- header, keys and updates
        pub weighed-stored : (r : ℕ) → ((end : ℕ) → Laid o2 (3 + t.deleted) t.updated end → r ≡ end) → (values : List ℤ) (items : List Item) (w : Counts) → Told s sizes f.keys f.deleted f.first n values items → stored_delta out (ok (delta_read (map bits values) items) w) ≡ record { answer = ok r w; out = o2 }
        weighed-stored r g values items w T =
            let second = e2 W.values W.items W.told in
            let laid = updates-laid out W.values W.items f.deleted room w W.key-count W.room-is h o1 o2 first-is second in
            let end_is = g (length (written_delta (delta_read (map bits W.values) W.items).delta)) (rw (W.tallied.deleted-is, W.tallied.updated-is) laid) in
            settled (Comes (ok r w) o2 w) (stored-whole out W.values W.items f.deleted room w W.key-count W.room-is h o1 o2 first-is second r end_is) values items T
