-- The whole delta of an area, as ints or packed: the front of the area, and then the updates. Assumes nothing.
use Prim.Native.Nat.{ℕ, ◌+◌, ◌*◌, ◌<◌, ◌≤◌}
use mathlib.Core.Path.{◌≡◌, refl, sym, ap, ◌∙◌}
use mathlib.Core.Bool.{Bool}
use mathlib.Core.List.{List, [], ◌++◌}
use native.Mathlib.Omega.{arith}
use lib.IntN.{ℤ}
use lib.ListN.{length, take, length-append}
use lib.Seq.{length-take-le}
use Rattle.definitions.specs.Areas.{lay_at}
use Rattle.definitions.specs.Refusals.{capacity_error}
use Rattle.definitions.specs.Warnings.{none}
use Rattle.definitions.specs.Outcome.{return, refuse}
use Rattle.definitions.specs.Packed.{pack_ints}
use Rattle.definitions.specs.Stored.{stored}
use Rattle.definitions.specs.Deltas.{updates_ints, updates, delta_ints, delta_in}
use Rattle.laws.specs.AreaLaws.{lay_at-append}
use Rattle.laws.specs.PackLaws.{stored-fits, stored-full, length-pack_ints, pack-append}
use Rattle.laws.specs.DeltaRestores.{delta-front, updates-end}
use Rattle.laws.specs.DeltaWriting.{length-written-updates}
use Rattle.ints.specs.Copies.{copy_at}
use Rattle.delta_form.specs.Held.{HeldDelta}
use Rattle.delta_writing.proofs.Writing.{formed, copied}

module _ {E : Type 0} (form : List ℤ → List E) (joined : (xs ys : List ℤ) → form (xs ++ ys) ≡ form xs ++ form ys) (sizes a : List ℤ) (k u : ℕ) (h : HeldDelta [] a k u) where
  abbrev front : List E
  front = form (take (3 + k) a)

  abbrev all-updates : List E
  all-updates = formed form sizes a (3 + k) u

  whole_is : form (delta_ints sizes (delta_in [] a)) ≡ front ++ all-updates
  whole_is =
      rw (h.deleted-is, h.updated-is, delta-front [] a h.shape sizes) (joined _ _)

  pub whole_length : length (form (delta_ints sizes (delta_in [] a))) ≡ length front + length all-updates
  whole_length = ap length whole_is ∙ length-append front all-updates

  pub refused : (n : ℕ) (out : List E) → n ≡ length front + length all-updates → length out < n → stored out (return (form (delta_ints sizes (delta_in [] a)))) ≡ record { answer = refuse capacity_error; out = out }
  refused n out e l = stored-full (form (delta_ints sizes (delta_in [] a))) out none (omega (arith, whole_length))

  pub both_stored : (r : ℕ) (out o1 o2 : List E) → length front + length all-updates ≤ length out → o1 ≡ lay_at 0 front out → r ≡ length front + length all-updates → o2 ≡ lay_at (length front) all-updates o1 → stored out (return (form (delta_ints sizes (delta_in [] a)))) ≡ record { answer = return r; out = o2 }
  both_stored r out o1 o2 l e1 er e2 =
      let e : 0 + length front ≡ length front = omega arith in
      stored-fits (form (delta_ints sizes (delta_in [] a))) out none (omega (arith, whole_length))
      ∙ rw (whole_length, ← er, e2, e1, whole_is) (ap (λ (o : List E). record { answer = return r; out = o }) (lay_at-append 0 front all-updates out ∙ rw e))

module _ (sizes a : List ℤ) (k u : ℕ) (h : HeldDelta [] a k u) where
  abbrev ups : List ℤ
  ups = updates_ints sizes (updates [] a (3 + k) u)

  pub front_length : 3 + k ≡ length (take (3 + k) a)
  front_length = sym (length-take-le (3 + k) a h.room)

  -- no more ints than the area has
  pub ints-within : 3 + k + length ups ≤ length a
  ints-within = omega (arith, length-written-updates sizes a (3 + k) u h.updates, updates-end [] a (3 + k) u h.room h.updates)

  -- five bytes for each int
  pub bytes-within : length (pack_ints (take (3 + k) a)) + length (pack_ints ups) ≤ 5 * length a
  bytes-within = omega (arith, length-pack_ints (take (3 + k) a), length-pack_ints ups, front_length, ints-within)

  pub ints-refused : (n : ℕ) (out : List ℤ) → n ≡ length ups → length out < 3 + k + n → stored out (return (delta_ints sizes (delta_in [] a))) ≡ record { answer = refuse capacity_error; out = out }
  ints-refused n out e l = refused (λ xs. xs) (λ xs ys. refl) sizes a k u h (3 + k + n) out (omega (arith, front_length)) l

  pub ints-stored : (n r : ℕ) (out o1 o2 : List ℤ) (b : Bool) → n ≡ length ups → 3 + k + n ≤ length out → copy_at out 0 (take (3 + k) a) ≡ record { fits = b; out = o1 } → r ≡ 3 + k + length ups → o2 ≡ lay_at (3 + k) ups o1 → stored out (return (delta_ints sizes (delta_in [] a))) ≡ record { answer = return r; out = o2 }
  ints-stored n r out o1 o2 b e l c er e2 =
      let f = front_length in
      both_stored (λ xs. xs) (λ xs ys. refl) sizes a k u h r out o1 o2 (omega arith)
      (copied out 0 (take (3 + k) a) o1 b (omega arith) c) (omega arith) (rw (← f) e2)

  -- ---- packed

  pub bytes-refused : (f n : ℕ) (out : List ℕ) → f ≡ length (pack_ints (take (3 + k) a)) → n ≡ length (pack_ints ups) → length out < f + n → stored out (return (pack_ints (delta_ints sizes (delta_in [] a)))) ≡ record { answer = refuse capacity_error; out = out }
  bytes-refused f n out ef en l = refused pack_ints pack-append sizes a k u h (f + n) out (omega arith) l

  -- they have room
  module _ (f n : ℕ) (out : List ℕ) (ef : f ≡ length (pack_ints (take (3 + k) a))) (en : n ≡ length (pack_ints ups)) (l : f + n ≤ length out) where
    pub front-room : 0 + length (pack_ints (take (3 + k) a)) ≤ length out
    front-room = omega arith

    module _ (at : ℕ) (o1 : List ℕ) (ea : at ≡ 0 + length (pack_ints (take (3 + k) a))) (e1 : o1 ≡ lay_at 0 (pack_ints (take (3 + k) a)) out) where
      pub bytes-stored : (r : ℕ) (o2 : List ℕ) → r ≡ at + length (pack_ints ups) → o2 ≡ lay_at at (pack_ints ups) o1 → stored out (return (pack_ints (delta_ints sizes (delta_in [] a)))) ≡ record { answer = return r; out = o2 }
      bytes-stored r o2 er e2 =
          let e : length (pack_ints (take (3 + k) a)) ≡ at = omega arith in
          both_stored pack_ints pack-append sizes a k u h r out o1 o2 (omega arith) e1 (omega arith) (rw e e2)
