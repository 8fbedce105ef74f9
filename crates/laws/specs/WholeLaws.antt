-- A delta that goes in one message: the receiver's answer. Assumes nothing.
use Rattle.std.specs.Prelude.{◌≡◌, refl, Bool, true, false, cond, List, [], ℕ, ◌≤◌, ℤ}
use Rattle.std.proofs.Math.Option.{some, none}
use borrow.Author.Tests.{le-leb}
use Rattle.std.proofs.Math.ListN.{length}
use Rattle.definitions.specs.Areas.{lay}
use Rattle.definitions.specs.Refusals.{old_delta, scratch_too_short, part_too_long, not_in_form}
use Rattle.definitions.specs.Warnings.{Counts, DuplicateSnap, one, none as no-warning}
use Rattle.definitions.specs.Outcome.{ok, return, require, warn_if, ◌>>◌}
use Rattle.definitions.specs.Messages.{SnapEmpty, SnapSingle, base_tick, distance}
use Rattle.definitions.specs.Receiver.{Receiver, Taken, Receives, finished_at, receiver_form, is_old, is_current, take_single, take_empty, leaves}
use Rattle.laws.specs.PartLaws.{receives}

-- the warning that the tick was the unfinished one, where it was
abbrev pub duplicate : Bool → Counts
duplicate b = cond b (one DuplicateSnap) no-warning

-- the result of a message that is taken
abbrev left : Counts → Taken → Receives
left w t = record { answer = ok t.received w; receiver = t.receiver; parts = t.parts; joined = t.joined }

single-ending : (r : Receiver) (area second : List ℕ) (t : Taken) (d : Bool) → leaves r area second (require true not_in_form >> (require true scratch_too_short >> (require true part_too_long >> (require true old_delta >> (warn_if d DuplicateSnap >> return t))))) ≡ left (duplicate d) t
unfolding leaves
single-ending r area second t true = refl
single-ending r area second t false = refl

empty-ending : (r : Receiver) (area second : List ℕ) (t : Taken) (d : Bool) → leaves r area second (require true not_in_form >> (require true old_delta >> (warn_if d DuplicateSnap >> return t))) ≡ left (duplicate d) t
unfolding leaves
empty-ending r area second t true = refl
empty-ending r area second t false = refl

module _ (t b : ℤ) (r : Receiver) (area second : List ℕ) (back : base_tick t (distance t b) ≡ b) (form : receiver_form r ≡ true) (new : is_old r t ≡ false) where
  -- a single message brings its bytes, unless its tick is old
  pub single-brings : (s : ℤ) (x : List ℕ) → length x ≤ 900 → 28800 ≤ length second → receives r (record { numbers = SnapSingle t (distance t b) s; bytes = x }) area second ≡ record { answer = ok (some (record { delta_tick = b; tick = t; data_and_crc = some (record { length = length x; crc = s }) })) (duplicate (is_current r t)); receiver = finished_at t; parts = area; joined = lay x second }
  unfolding take_single
  single-brings s x short room =
      rw (form, le-leb 28800 (length second) room, le-leb (length x) 900 short, new, back)
      (single-ending r area second (record { received = some (record { delta_tick = b; tick = t; data_and_crc = some (record { length = length x; crc = s }) }); receiver = finished_at t; parts = area; joined = lay x second }) (is_current r t))

  -- an empty message brings an empty delta
  pub empty-brings : receives r (record { numbers = SnapEmpty t (distance t b); bytes = [] }) area second ≡ record { answer = ok (some (record { delta_tick = b; tick = t; data_and_crc = none })) (duplicate (is_current r t)); receiver = finished_at t; parts = area; joined = second }
  unfolding take_empty
  empty-brings =
      rw (form, new, back)
      (empty-ending r area second (record { received = some (record { delta_tick = b; tick = t; data_and_crc = none }); receiver = finished_at t; parts = area; joined = second }) (is_current r t))
