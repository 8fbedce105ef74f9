-- Bounds on what the functions of `delta_source` return: no more warnings and ints than the source has. Assumes nothing.
use Rattle.std.specs.Prelude.{◌≡◌, Bool, true, false, ℕ, ◌+◌, ◌*◌, ◌/◌, ◌≤◌, ℤ, length, Ok, Err}
use mathlib.Core.List.{List, [], ◌∷◌, ◌++◌}
use Rattle.std.proofs.Math.Option.{Option}
use native.Mathlib.Omega.{arith}
use Rattle.std.proofs.Common.{le-ltb}
use Rattle.std.proofs.Math.ListN.{length-append}
use Rattle.definitions.specs.Warnings.{Counts, plus}
use Rattle.definitions.specs.Outcome.{ok, err}
use Rattle.definitions.specs.Stream.{ints}
use Rattle.definitions.specs.Tables.{Item}
use Rattle.definitions.specs.Deltas.{known_size, update_ints, updates_ints}
use Rattle.definitions.specs.DeltaReading.{Got, DeltaHeader}
use Rattle.laws.specs.WarningLaws.{packed}
use Rattle.laws.specs.DeltaReadBack.{many-ints}
use Rattle.delta_source.specs.Source.{Source, size, from, odd_padding, Skips, past, Updates, Headers, Walks, whole, broken, more, Judges}
use Rattle.delta_source.specs.Source as Source
use Rattle.delta_source.specs.SourceLaws.{overlongs, few-from, few-left, Reads, got, refused, ints-reads, header-reads, update-reads}
use Rattle.delta_source.specs.declared.checked.Refusal.{Refusal}
use Rattle.delta_source.specs.declared.checked.Skip.{Skip}
use Rattle.delta_source.specs.declared.checked.Update.{Update}
use Rattle.delta_source.specs.declared.checked.Header.{Header}
use Rattle.delta_source.specs.declared.checked.Judged.{Judged}

-- from one place to the next: at least n ints, and all the warnings
pub record Counted (s : Source) (at next n o : ℕ) : Type 0 where
  pub overlong-all : o + overlongs (from s next) ≡ overlongs (from s at)
  pub ints-all : n + length (ints (from s next)) ≤ length (ints (from s at))

module _ {A : Type 0} {many : A → ℕ} where
  counted :
      (s : Source) (at next o : ℕ) (a : A) → Reads 0 many (from s at) (ok (record { value = a; rest = from s next }) (packed o)) → Counted s at next (many a) o
  counted s at next o a (got x y) = record { overlong-all = x; ints-all = omega arith }

  -- no more warnings than there are
  bounded : (s : Source) (at n o : ℕ) → Reads 0 many (from s at) (err n (packed o)) → o ≤ overlongs (from s at)
  bounded s at n o (refused x) = x

-- no more of them than bytes or ints
most : (s : Source) (at : ℕ) {o : ℕ} → o ≤ overlongs (from s at) → o ≤ size s
most s at h = omega (arith, few-from s at, few-left s at)

pub counted-most : {s : Source} {at next n o : ℕ} → Counted s at next n o → (o ≤ size s) × (n ≤ size s)
counted-most {s} {at} c =
    let l = few-left s at in
    (omega (arith, c.overlong-all, few-from s at), omega (arith, c.ints-all))

module _ {s : Source} {at n refusal : ℕ} where
  pub skip-counted : {r : Skip} → Skips s at n refusal (Ok r) → Counted s at r.next n r.overlong
  skip-counted {r} (past xs l e q a b) =
      let c = counted s at r.next r.overlong xs (rw (e 0) at (ints-reads 0 n 0 (from s at))) in
      record { overlong-all = c.overlong-all; ints-all = omega (arith, c.ints-all) }

  pub skip-most : {r : Refusal} → Skips s at n refusal (Err r) → r.overlong ≤ size s
  skip-most {r} (Source.refused e) = most s at (bounded s at _ r.overlong (rw e at (ints-reads refusal n 0 (from s at))))

module _ {s : Source} {sizes : List ℤ} {at : ℕ} where
  pub update-counted : {u : Update} → Updates s sizes at (Ok u) → Counted s at u.next (2 + u.size) u.overlong
  update-counted {u} (Source.update xs v l f e q r a b i) =
      let c = counted s at u.next u.overlong _ (rw e at (update-reads sizes (from s at))) in
      record { overlong-all = c.overlong-all; ints-all = omega (arith, c.ints-all) }

  pub update-bounded : {r : Refusal} → Updates s sizes at (Err r) → r.overlong ≤ overlongs (from s at)
  update-bounded {r} (Source.refused e) = bounded s at _ r.overlong (rw e at (update-reads sizes (from s at)))

  pub update-most : {r : Refusal} → Updates s sizes at (Err r) → r.overlong ≤ size s
  update-most u = most s at (update-bounded u)

module _ {s : Source} where
  pub header-counted : {h : Header} → Headers s (Ok h) → Counted s 0 h.next 3 h.overlong
  header-counted {h} (Source.delta e b) = go h.odd (rw e at (header-reads (from s 0)))
    where
      go :
          (odd : Bool) →
          let g : Got DeltaHeader = record { value = record { deleted = h.deleted; updated = h.updated }; rest = from s h.next } in
          Reads 0 (λ (x : DeltaHeader). 3) (from s 0) (ok g (plus (packed h.overlong) (odd_padding odd))) → Counted s 0 h.next 3 h.overlong
      go true (got x y) = record { overlong-all = omega arith; ints-all = omega arith }
      go false (got x y) = record { overlong-all = omega arith; ints-all = omega arith }

-- ---- the room of updates

-- if no size is known, an update takes three ints and its differences
pub length-update : (x : Item) → length (update_ints [] x) ≡ 3 + length x.values
unfolding update_ints known_size
length-update x = rw (le-ltb (x.key / 65536) 0 (omega arith)) (omega arith)

pub length-updates : (l m : List Item) → length (updates_ints [] (l ++ m)) ≡ length (updates_ints [] l) + length (updates_ints [] m)
unfolding updates_ints
length-updates [] m = omega arith
length-updates (x ∷ l) m =
    omega (arith, length-updates l m, length-append (update_ints [] x) (updates_ints [] (l ++ m)), length-append (update_ints [] x) (updates_ints [] l))

-- no more warnings than the source has, and room for at most one and a half times its ints
pub record Walked (s : Source) (at : ℕ) (us : List Item) (w : Counts) : Type 0 where
  pub overlong-most : w.overlong_int_encoding ≤ overlongs (from s at)
  pub room_most : 2 * length (updates_ints [] us) ≤ 3 * length (ints (from s at))

module _ {s : Source} where
  ends-walked : {at n : ℕ} {w : Counts} → Reads 0 (λ (u : Item). 2 + length u.values) (from s at) (err n w) → Walked s at [] w
  unfolding updates_ints
  ends-walked (refused x) = record { overlong-most = x; room_most = omega arith }

  goes_on : {at next : ℕ} {u : Item} {us : List Item} {v w : Counts} → Reads 0 (λ (u : Item). 2 + length u.values) (from s at) (ok (record { value = u; rest = from s next }) v) → Walked s next us w → Walked s at (u ∷ us) (plus v w)
  unfolding updates_ints
  goes_on {u = u} {us = us} (got x y) i =
      let r = length-append (update_ints [] u) (updates_ints [] us) in
      let k = length-update u in
      record { overlong-most = omega (arith, i.overlong-most); room_most = omega (arith, i.room_most) }

  pub walk-bounded : {sizes : List ℤ} {at : ℕ} {us : List Item} {w : Counts} {e : Option ℕ} → Walks s sizes at us w e → Walked s at us w
  unfolding updates_ints
  walk-bounded {sizes} {at} (whole e) = record { overlong-most = omega arith; room_most = omega arith }
  walk-bounded {sizes} {at} (broken f e) = ends-walked (rw e at (update-reads sizes (from s at)))
  walk-bounded {sizes} {at} (more f e q a b i) = goes_on (rw e at (update-reads sizes (from s at))) (walk-bounded i)

-- the same for what is returned about updates: there are no more of them than ints of room
pub judged-most :
    {s : Source} {sizes : List ℤ} {at : ℕ} {j : Judged} → Judges s sizes at j → (j.overlong ≤ size s) × (2 * j.room ≤ 3 * size s) × (j.updates ≤ j.room)
judged-most {s} {sizes} {at} i =
    let w = walk-bounded i.walks in
    let l = few-left s at in (
      omega (arith, w.overlong-most, few-from s at),
      omega (arith, w.room_most, i.room-is),
      omega (arith, i.count-is, i.room-is, many-ints [] i.items),
    )
