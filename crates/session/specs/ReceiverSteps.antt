-- What the receiver does with a message, whatever warnings it counts. Assumes nothing.
use Rattle.std.specs.Prelude.{◌≡◌, refl, Bool, true, false, cond, not, List, ℕ, ◌*◌, ◌≤◌, ◌<◌, eqb, ℤ, length}
use Rattle.std.proofs.Common.{ap}
use Rattle.std.proofs.Math.Option.{Option, some}
use borrow.Author.Tests.{le-leb, lt-ltb}
use Rattle.definitions.specs.Areas.{lay, lay_at}
use Rattle.definitions.specs.Refusals.{old_delta, duplicate_part}
use Rattle.definitions.specs.Warnings.{Counts, none, DuplicateSnap, DifferingAttributes}
use Rattle.definitions.specs.Outcome.{Outcome, ok, err, return, require, after, ◌>>◌}
use Rattle.definitions.specs.Tables.{num}
use Rattle.definitions.specs.Receiver.{Receiver, count_in, finish, wait, receiver_form, is_old, is_current, is_in, Part, Opened, Taken, opened, differs, with_part, put_part, whole, take_snap, take_single, take_empty}
use Rattle.definitions.specs.Messages.{Distance}
use Rattle.session.specs.StoreSteps.{warned}

-- an outcome is a value, with some warnings
pub record Gives {A : Type 0} (o : Outcome A) (a : A) : Type 0 where
  pub counts : Counts
  pub gives : o ≡ ok a counts

-- an outcome is a refusal, with some warnings
pub record Refuses {A : Type 0} (o : Outcome A) (n : ℕ) : Type 0 where
  pub counts : Counts
  pub refuses : o ≡ err n counts

-- a value, with these warnings
pub given : {A : Type 0} (a : A) (w : Counts) → Gives (ok a w) a
given a w = record { counts = w; gives = refl }

-- a refusal, with these warnings
pub refusal : {A : Type 0} (n : ℕ) (w : Counts) → Refuses {A = A} (err n w) n
refusal n w = record { counts = w; refuses = refl }

-- ---- parts

-- a part with which as many are in as there are finishes its tick
pub put-finishes : (previous : Option ℤ) (o : Opened) (area second : List ℕ) → eqb (count_in o.parts 32) o.current.num_parts ≡ true → put_part previous o area second ≡ finish o area second
unfolding put_part
put-finishes previous o area second e =
    ap (λ (b : Bool). cond b (finish o area second) (wait previous o area second)) e

-- another does not
pub put-waits : (previous : Option ℤ) (o : Opened) (area second : List ℕ) → eqb (count_in o.parts 32) o.current.num_parts ≡ false → put_part previous o area second ≡ wait previous o area second
unfolding put_part
put-waits previous o area second e =
    ap (λ (b : Bool). cond b (finish o area second) (wait previous o area second)) e

-- what is left when a part is taken
abbrev putting : Receiver → Part → List ℕ → List ℕ → List ℕ → Taken
putting r m bytes area second =
    put_part r.previous_tick (with_part (opened r m) (num m.part) (length bytes)) (lay_at (900 * num m.part) bytes area) second

-- the tests before the last one passed, with some warnings
abbrev passed : Counts → Outcome Taken → Outcome Taken
passed w o = after none (after none (after none (after none (after none (after none (after w o))))))

-- the last one is whether a part is in
twice-stops : (w : Counts) (t : Taken) (b : Bool) → b ≡ true → Refuses (passed w (require (not b) duplicate_part >> return t)) duplicate_part
twice-stops w t b e = rw e (refusal _ _)

-- or is not
once-passes : (w : Counts) (t : Taken) (b : Bool) → b ≡ false → Gives (passed w (require (not b) duplicate_part >> return t)) t
once-passes w t b e = rw e (given _ _)

module _ (r : Receiver) (m : Part) (bytes area second : List ℕ) (form : receiver_form r ≡ true) (first : 28800 ≤ length area) (other : 28800 ≤ length second) (short : length bytes ≤ 900) where
  -- of an old tick
  pub snap-old : is_old r m.tick ≡ true → Refuses (take_snap r m bytes area second) old_delta
  unfolding take_snap
  snap-old old =
      rw (form, le-leb 28800 (length area) first, le-leb 28800 (length second) other, le-leb (length bytes) 900 short, old) (refusal _ _)

  module _ (new : is_old r m.tick ≡ false) (few : num m.num_parts ≤ 32) (below : num m.part < num m.num_parts) where
    -- in already
    pub snap-twice : is_in (opened r m).parts (num m.part) ≡ true → Refuses (take_snap r m bytes area second) duplicate_part
    unfolding take_snap
    snap-twice there =
        let (w, e) = warned (differs (opened r m).current m) DifferingAttributes in
        rw (form, le-leb 28800 (length area) first, le-leb 28800 (length second) other, le-leb (length bytes) 900 short, new, le-leb (num m.num_parts) 32 few, lt-ltb (num m.part) (num m.num_parts) below, e) (twice-stops w (putting r m bytes area second) (is_in (opened r m).parts (num m.part)) there)

    -- not in yet
    pub snap-takes : is_in (opened r m).parts (num m.part) ≡ false → Gives (take_snap r m bytes area second) (put_part r.previous_tick (with_part (opened r m) (num m.part) (length bytes)) (lay_at (900 * num m.part) bytes area) second)
    unfolding take_snap
    snap-takes missing =
        let (w, e) = warned (differs (opened r m).current m) DifferingAttributes in
        rw (form, le-leb 28800 (length area) first, le-leb 28800 (length second) other, le-leb (length bytes) 900 short, new, le-leb (num m.num_parts) 32 few, lt-ltb (num m.part) (num m.num_parts) below, e) (once-passes w (putting r m bytes area second) (is_in (opened r m).parts (num m.part)) missing)

-- ---- whole deltas

module _ (r : Receiver) (tick : ℤ) (distance : Distance) (crc : ℤ) (bytes area second : List ℕ) (form : receiver_form r ≡ true) (other : 28800 ≤ length second) (short : length bytes ≤ 900) where
  -- a single message of an old tick
  pub single-old : is_old r tick ≡ true → Refuses (take_single r tick distance crc bytes area second) old_delta
  unfolding take_single
  single-old old =
      rw (form, le-leb 28800 (length second) other, le-leb (length bytes) 900 short, old) (refusal _ _)

  -- of another
  pub single-takes : is_old r tick ≡ false → Gives (take_single r tick distance crc bytes area second) (whole tick distance (some (record { length = length bytes; crc = crc })) area (lay bytes second))
  unfolding take_single
  single-takes new =
      let (w, e) = warned (is_current r tick) DuplicateSnap in
      rw (form, le-leb 28800 (length second) other, le-leb (length bytes) 900 short, new, e) (given _ _)

module _ (r : Receiver) (tick : ℤ) (distance : Distance) (area second : List ℕ) (form : receiver_form r ≡ true) where
  -- an empty message of an old tick
  pub empty-old : is_old r tick ≡ true → Refuses (take_empty r tick distance area second) old_delta
  unfolding take_empty
  empty-old old = rw (form, old) (refusal _ _)

  -- of another
  pub empty-takes : is_old r tick ≡ false → Gives (take_empty r tick distance area second) (whole tick distance Option.none area second)
  unfolding take_empty
  empty-takes new =
      let (w, e) = warned (is_current r tick) DuplicateSnap in
      rw (form, new, e) (given _ _)
