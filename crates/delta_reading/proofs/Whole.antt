-- The whole delta of ints in form, with its sizes: its front, and then the updates. Assumes nothing.
use Prim.Native.Nat.{ℕ, ◌+◌, ◌*◌, ◌<◌, ◌≤◌}
use mathlib.Core.Path.{◌≡◌, refl, sym, ap, ◌∙◌}
use mathlib.Core.Bool.{Bool}
use mathlib.Core.List.{List, [], ◌∷◌, ◌++◌}
use native.Mathlib.Omega.{arith}
use lib.IntN.{ℤ}
use lib.ListN.{length, take, length-append}
use lib.Seq.{length-take-le, take_all}
use Rattle.definitions.specs.Areas.{lay_at}
use Rattle.definitions.specs.Refusals.{capacity_error}
use Rattle.definitions.specs.Warnings.{none}
use Rattle.definitions.specs.Outcome.{return, refuse, Wrote}
use Rattle.definitions.specs.Stored.{stored}
use Rattle.definitions.specs.Deltas.{num_deleted, num_updated, written_delta, delta_in}
use Rattle.laws.specs.AreaLaws.{lay_at-append}
use Rattle.laws.specs.PackLaws.{stored-fits, stored-full}
use Rattle.laws.specs.DeltaShape.{updates_end}
use Rattle.laws.specs.DeltaRestores.{delta-front, delta-stands}
use Rattle.ints.specs.Copies.{copy_at, copied}
use Rattle.delta_form.specs.Held.{HeldDelta}
use Rattle.delta_reading.proofs.Turns.{sized, sized-short}

module _ (sizes a : List ℤ) (k u : ℕ) (h : HeldDelta sizes a k u) where
  abbrev front : List ℤ
  front = take (3 + k) a

  abbrev ups : List ℤ
  ups = sized sizes a (3 + k) u

  abbrev whole : List ℤ
  whole = written_delta (delta_in sizes a)

  whole_is : whole ≡ front ++ ups
  whole_is = rw (h.deleted-is, h.updated-is) (delta-front sizes a h.shape [])

  pub front_length : 3 + k ≡ length front
  front_length = sym (length-take-le (3 + k) a h.room)

  whole_length : length whole ≡ 3 + k + length ups
  whole_length = ap length whole_is ∙ (length-append front ups ∙ ap (λ (n : ℕ). n + length ups) (sym front_length))

  -- no more than twice the ints
  pub whole-short : 3 + k + length ups ≤ 2 * length a
  whole-short = omega (arith, sized-short sizes a (3 + k) u h.room h.updates)

  pub area-refused : (n : ℕ) (out : List ℤ) → n ≡ length ups → length out < 3 + k + n → stored out (return whole) ≡ record { answer = refuse capacity_error; out = out }
  area-refused n out e l = stored-full whole out none (omega (arith, whole_length))

  pub area-stored : (n r : ℕ) (out o1 o2 : List ℤ) (b : Bool) → n ≡ length ups → 3 + k + n ≤ length out → copy_at out 0 front ≡ record { fits = b; out = o1 } → r ≡ 3 + k + length ups → o2 ≡ lay_at (3 + k) ups o1 → stored out (return whole) ≡ record { answer = return r; out = o2 }
  area-stored n r out o1 o2 b e l c er e2 =
      let f = front_length in
      let e1 : o1 ≡ lay_at 0 front out = copied out 0 front front b o1 c refl (omega arith) in
      let z : 0 + length front ≡ 3 + k = omega arith in
      let laid : o2 ≡ lay_at 0 whole out = e2 ∙ rw (e1, whole_is, lay_at-append 0 front ups out, z) in
      stored-fits whole out none (omega (arith, whole_length))
      ∙ rw (whole_length, er, laid)

-- if no size is known and the delta is all of the ints, it equals them
pub all-stands : (sizes a : List ℤ) (k u : ℕ) → HeldDelta sizes a k u → length a ≡ updates_end sizes a (3 + num_deleted a) (num_updated a) → length sizes ≡ 0 → a ≡ written_delta (delta_in sizes a)
all-stands [] a k u h e z =
    sym (take_all (updates_end [] a (3 + num_deleted a) (num_updated a)) a (omega (arith, e))) ∙ delta-stands [] a h.shape
all-stands (x ∷ sizes) a k u h e z = absurd (omega (arith, z))

-- so a copy of it is stored
pub whole-stands : (sizes a : List ℤ) (k u : ℕ) → HeldDelta sizes a k u → length a ≡ updates_end sizes a (3 + num_deleted a) (num_updated a) → length sizes ≡ 0
    → (out : List ℤ) (w : Wrote ℕ ℤ) → stored out (return a) ≡ w → stored out (return (written_delta (delta_in sizes a))) ≡ w
whole-stands sizes a k u h e z out w q = ap (λ (l : List ℤ). stored out (return l)) (sym (all-stands sizes a k u h e z)) ∙ q
