-- A delta that was read, with what was repeated, and how it is stored. Assumes nothing.
use mathlib.Core.Path.{◌≡◌, refl, sym, ap, ◌∙◌}
use mathlib.Core.List.{List, [], ◌∷◌, ◌++◌, map, append_assoc}
use Prim.Native.Nat.{ℕ, ◌+◌, ◌≤◌, ◌<◌}
use native.Mathlib.Omega.{arith}
use borrow.Author.Tests.{le-leb, lt-leb}
use lib.IntN.{ℤ, pos}
use lib.ListN.{length, drop}
use lib.Seq.{drop_at}
use Rattle.definitions.specs.Ints.{bits, from_bits}
use Rattle.definitions.specs.Areas.{lay_at, lay}
use Rattle.definitions.specs.Refusals.{capacity_error}
use Rattle.definitions.specs.Warnings.{Counts}
use Rattle.definitions.specs.Outcome.{ok, err}
use Rattle.definitions.specs.Stored.{stored}
use Rattle.definitions.specs.Tables.{Item}
use Rattle.definitions.specs.Deltas.{updates_ints, delta_ints, written_delta}
use Rattle.definitions.specs.DeltaReading.{ordered_keys, ordered_updates, delta_read}
use Rattle.definitions.specs.DeltaCalls.{stored_delta}
use Rattle.laws.specs.WarningLaws.{plus_none}
use Rattle.laws.specs.AreaLaws.{lay_at-append, lay-append}
use Rattle.laws.specs.PackLaws.{stored-fits}
use Rattle.laws.specs.DeltaReadBack.{length-keys, length-delta_ints}
use Rattle.delta_any_order.specs.Fronts.{Laid}
use Rattle.delta_any_order.specs.OrderLaws.{length-ordered_updates, length-bits, few-deleted}

-- ---- stored, or refused for lack of room

module _ (out values : List ℤ) (items : List Item) (k room : ℕ) (w : Counts) (ek : length values ≡ k) (er : room ≡ length (updates_ints [] items)) where
  -- the keys that go
  abbrev deleted : List ℕ
  deleted = map bits values

  -- what is stored
  abbrev whole : List ℤ
  whole = written_delta (delta_read deleted items).delta

  -- it does not fit
  pub no_room : length out < 3 + k + room → stored_delta out (ok (delta_read deleted items) w) ≡ record { answer = err capacity_error w; out = out }
  unfolding stored_delta stored
  no_room h =
      let l = length-bits values in
      rw (lt-leb (3 + length deleted + length (updates_ints [] items)) (length out) (omega arith)) (ap (λ (v : Counts). record { answer = err capacity_error v; out = out }) (plus_none w))

  module _ (h : 3 + k + room ≤ length out) where
    -- what is stored has room
    pub whole-fits : 3 + length (ordered_keys deleted) + length (updates_ints [] (ordered_updates items)) ≤ length out
    whole-fits = omega (arith, few-deleted values, length-ordered_updates items)

    -- the same for its length
    whole-short : length whole ≤ length out
    whole-short = omega (arith, length-delta_ints [] (delta_read deleted items).delta, whole-fits)

    -- it is stored
    pub all-stored : stored_delta out (ok (delta_read deleted items) w) ≡ record { answer = ok (length whole) w; out = lay whole out }
    unfolding stored_delta
    all-stored =
        let l = length-bits values in
        rw (le-leb (3 + length deleted + length (updates_ints [] items)) (length out) (omega arith))
        (ap (λ (v : Counts). stored out (ok whole v)) (plus_none w) ∙ stored-fits whole out w whole-short)

    -- the header, and then keys and updates
    module _ (o1 o2 : List ℤ) (e1 : o1 ≡ lay_at 0 (pos (length (ordered_keys deleted)) ∷ pos (length (ordered_updates items)) ∷ pos 0 ∷ []) out) (e2 : o2 ≡ lay_at 3 (map from_bits (ordered_keys deleted) ++ updates_ints [] (ordered_updates items)) o1) where
      -- both together are what is stored
      laid-is : o2 ≡ lay whole out
      unfolding delta_ints
      laid-is = e2 ∙ (ap (lay_at 3 (map from_bits (ordered_keys deleted) ++ updates_ints [] (ordered_updates items))) e1 ∙ sym (lay_at-append 0 (pos (length (ordered_keys deleted)) ∷ pos (length (ordered_updates items)) ∷ pos 0 ∷ []) (map from_bits (ordered_keys deleted) ++ updates_ints [] (ordered_updates items)) out))

      -- the updates are after the keys
      pub updates-laid : Laid o2 (3 + length (ordered_keys deleted)) (length (ordered_updates items)) (length whole)
      unfolding delta_ints
      updates-laid =
          let front : List ℤ = pos (length (ordered_keys deleted)) ∷ pos (length (ordered_updates items)) ∷ pos 0 ∷ map from_bits (ordered_keys deleted) in
          let us = updates_ints [] (ordered_updates items) in
          let rest = drop (length whole) out in
          record {
            items = ordered_updates items;
            rest = rest;
            stands = ap (drop (3 + length (ordered_keys deleted))) (laid-is ∙ (lay-append whole out whole-short ∙ append_assoc front us rest)) ∙ drop_at front (us ++ rest) (3 + length (ordered_keys deleted)) (omega (arith, length-keys (ordered_keys deleted)));
            count = refl;
            ends = sym (length-delta_ints [] (delta_read deleted items).delta);
          }

      -- so many ints
      pub stored-whole : (r : ℕ) → r ≡ length whole → stored_delta out (ok (delta_read deleted items) w) ≡ record { answer = ok r w; out = o2 }
      stored-whole r e = all-stored ∙ rw (e, laid-is)
