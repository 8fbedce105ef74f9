-- What is known about ints whose form was tested. Assumes nothing.
use Rattle.std.specs.Prelude.{◌≡◌, true, cond, List, ℕ, ◌+◌, ◌<◌, ◌≤◌, ◌^◌, ltb, ℤ, length, Option, Some, None}
use Rattle.std.proofs.Math.Option.{some, none}
use Rattle.std.proofs.Math.Option as Math
use Rattle.std.proofs.Common.{arith}
use Rattle.definitions.specs.Deltas.{num_deleted, num_updated, update_end, update_fits, updates_fit, delta_form}
use Rattle.laws.specs.DeltaShape.{updates_end, DeletedKey, Updates, DeltaShape, delta-shape, deleted-at, updates-at}
use Rattle.delta_form.specs.declared.checked.DeltaForm.{DeltaForm}

-- a count as a known size
abbrev pub size_from : ℕ → Math.Option ℕ
size_from r = cond (ltb r (2 ^ 32)) (some r) none

-- the answer of the form test
abbrev pub form_of : List ℤ → List ℤ → Option DeltaForm
form_of sizes a =
    cond (delta_form sizes a)
    (Some
    (record {
      deleted = num_deleted a;
      updated = num_updated a;
      ints = updates_end sizes a (3 + num_deleted a) (num_updated a);
    }))
    None

-- the place after the update at place p, if the update is within the ints
unfoldable pub end_of : List ℤ → List ℤ → ℕ → Option ℕ
end_of sizes a p = cond (update_fits sizes a p 0) (Some (update_end sizes a p)) None

-- the answer of the test of n updates from place p on
unfoldable pub updates_form_of : List ℤ → List ℤ → ℕ → ℕ → ℕ → Option ℕ
updates_form_of sizes a p low n =
    cond (updates_fit sizes a p low n) (Some (updates_end sizes a p n)) None

-- ints hold a delta of k deleted keys and u updates
pub record HeldDelta (sizes a : List ℤ) (k u : ℕ) : Type 0 where
  pub deleted-is : k ≡ num_deleted a
  pub updated-is : u ≡ num_updated a
  pub in-form : delta_form sizes a ≡ true
  pub shape : DeltaShape sizes a
  -- room for header and deleted keys, and the keys fit
  pub room : 3 + k ≤ length a
  pub deleted : (i : ℕ) → i < k → DeletedKey a i
  -- the updates, one after the other
  pub updates : Updates sizes a (3 + k) u

pub held : (sizes a : List ℤ) (k u : ℕ) → k ≡ num_deleted a → u ≡ num_updated a → delta_form sizes a ≡ true → HeldDelta sizes a k u
held sizes a k u dk du e =
    let h = delta-shape sizes a e in
    record {
      deleted-is = dk;
      updated-is = du;
      in-form = e;
      shape = h;
      room = omega (arith, h.room);
      deleted = λ i l. deleted-at h i (omega arith);
      updates = rw (dk, du) (updates-at h);
    }
