-- The result of each call on a receiver, refusal by refusal. Assumes nothing.
use mathlib.Core.Path.{◌≡◌, refl}
use mathlib.Core.Bool.{Bool, true, false, cond}
use mathlib.Core.List.{List}
use mathlib.Core.Option.{some, none}
use Prim.Native.Nat.{ℕ, ◌≤◌, ◌<◌}
use borrow.Author.Tests.{lt-ltb, le-ltb, le-leb, lt-leb}
use lib.IntN.{ℤ}
use lib.ListN.{length}
use Rattle.definitions.specs.Areas.{lay}
use Rattle.definitions.specs.Tables.{num}
use Rattle.definitions.specs.Messages.{Distance, base_tick}
use Rattle.definitions.specs.Refusals.{old_delta, invalid_num_parts, invalid_part, scratch_too_short, part_too_long, not_in_form}
use Rattle.definitions.specs.Warnings.{DuplicateSnap, DifferingAttributes, one, none as no-warning}
use Rattle.definitions.specs.Outcome.{require, return, warn_if, ◌>>◌}
use Rattle.definitions.specs.Receiver.{Receiver, Part, Taken, no_parts, finished_at, receiver_form, is_old, is_current, opened, differs, take_snap, take_single, take_empty, whole, leaves, snap_call, snap_single_call, snap_empty_call}
use Rattle.laws.specs.DifferingLaws.{counted}
use Rattle.format.specs.Totals.{counts}
use Rattle.format.specs.declared.Warnings.{Warnings}
use Rattle.format.specs.Sources.{flagged}
use Rattle.ticks.specs.declared.Tick.{Tick}
use Rattle.receiver.specs.declared.checked.Ticks.{Ticks}
use Rattle.receiver.specs.declared.Received.TheVariants as received
use Rattle.std.specs.Prelude.{Some, Ok}
use Rattle.receiver.specs.States.{receiver_with}
use Rattle.receiver.specs.Answers.{taken, refusing, settled, taking}

-- ---- a part

-- the warning of a part whose numbers differ
flagged-differing : (d : Bool) → flagged false d ≡ cond d (one DifferingAttributes) no-warning
flagged-differing true = refl
flagged-differing false = refl

module _ (r : Receiver) (m : Part) (bytes area second : List ℕ) where
  pub refused-47 : receiver_form r ≡ false → snap_call r m bytes area second ≡ refusing not_in_form r area second
  unfolding take_snap leaves
  refused-47 h = rw h

  module _ (h : receiver_form r ≡ true) where
    pub refused-41 : length area < 28800 → snap_call r m bytes area second ≡ refusing scratch_too_short r area second
    unfolding take_snap leaves
    refused-41 k = rw (h, lt-leb 28800 (length area) k)

    module _ (k : 28800 ≤ length area) where
      pub refused-41b : length second < 28800 → snap_call r m bytes area second ≡ refusing scratch_too_short r area second
      unfolding take_snap leaves
      refused-41b l = rw (h, le-leb 28800 (length area) k, lt-leb 28800 (length second) l)

      module _ (l : 28800 ≤ length second) where
        pub refused-43 : 900 < length bytes → snap_call r m bytes area second ≡ refusing part_too_long r area second
        unfolding take_snap leaves
        refused-43 b = rw (h, le-leb 28800 (length area) k, le-leb 28800 (length second) l, lt-leb (length bytes) 900 b)

        module _ (b : length bytes ≤ 900) where
          pub refused-20 : is_old r m.tick ≡ true → snap_call r m bytes area second ≡ refusing old_delta r area second
          unfolding take_snap leaves
          refused-20 o =
              rw (h, le-leb 28800 (length area) k, le-leb 28800 (length second) l, le-leb (length bytes) 900 b, o)

          module _ (o : is_old r m.tick ≡ false) where
            pub refused-21 : 32 < num m.num_parts → snap_call r m bytes area second ≡ refusing invalid_num_parts r area second
            unfolding take_snap leaves
            refused-21 n =
                rw (h, le-leb 28800 (length area) k, le-leb 28800 (length second) l, le-leb (length bytes) 900 b, o, lt-leb (num m.num_parts) 32 n)

            module _ (n : num m.num_parts ≤ 32) where
              pub refused-22 : num m.num_parts ≤ num m.part → snap_call r m bytes area second ≡ refusing invalid_part r area second
              unfolding take_snap leaves
              refused-22 p =
                  rw (h, le-leb 28800 (length area) k, le-leb 28800 (length second) l, le-leb (length bytes) 900 b, o, le-leb (num m.num_parts) 32 n, le-ltb (num m.part) (num m.num_parts) p)

              pub judged : num m.part < num m.num_parts → snap_call r m bytes area second ≡ taking r m (num m.part) bytes area second
              unfolding taking settled
              judged p =
                  rw (flagged-differing (differs (opened r m).current m))
                  (counted r m bytes area second h (rw (le-leb 28800 (length area) k, le-leb 28800 (length second) l)) (le-leb (length bytes) 900 b) o (le-leb (num m.num_parts) 32 n) (lt-ltb (num m.part) (num m.num_parts) p))

-- ---- a single message

single-ending : (r : Receiver) (area second : List ℕ) (t : Taken) (d : Bool) → leaves r area second (require true not_in_form >> (require true scratch_too_short >> (require true part_too_long >> (require true old_delta >> (warn_if d DuplicateSnap >> return t))))) ≡ settled (flagged d false) t
unfolding leaves settled
single-ending r area second t true = refl
single-ending r area second t false = refl

module _ (r : Receiver) (tick : ℤ) (distance : Distance) (crc : ℤ) (bytes second : List ℕ) where
  pub single-47 : receiver_form r ≡ false → (area : List ℕ) → snap_single_call r tick distance crc bytes area second ≡ refusing not_in_form r area second
  unfolding take_single leaves
  single-47 h area = rw h

  module _ (h : receiver_form r ≡ true) where
    pub single-41 : length second < 28800 → (area : List ℕ) → snap_single_call r tick distance crc bytes area second ≡ refusing scratch_too_short r area second
    unfolding take_single leaves
    single-41 l area = rw (h, lt-leb 28800 (length second) l)

    module _ (l : 28800 ≤ length second) where
      pub single-43 : 900 < length bytes → (area : List ℕ) → snap_single_call r tick distance crc bytes area second ≡ refusing part_too_long r area second
      unfolding take_single leaves
      single-43 b area = rw (h, le-leb 28800 (length second) l, lt-leb (length bytes) 900 b)

      module _ (b : length bytes ≤ 900) where
        pub single-20 : is_old r tick ≡ true → (area : List ℕ) → snap_single_call r tick distance crc bytes area second ≡ refusing old_delta r area second
        unfolding take_single leaves
        single-20 o area = rw (h, le-leb 28800 (length second) l, le-leb (length bytes) 900 b, o)

        pub single-taken : is_old r tick ≡ false → (area : List ℕ) → snap_single_call r tick distance crc bytes area second ≡ settled (flagged (is_current r tick) false) (whole tick distance (some (record { length = length bytes; crc = crc })) area (lay bytes second))
        unfolding take_single
        single-taken o area =
            rw (h, le-leb 28800 (length second) l, le-leb (length bytes) 900 b, o)
            (single-ending r area second (whole tick distance (some (record { length = length bytes; crc = crc })) area (lay bytes second)) (is_current r tick))

-- ---- a whole delta was taken

module _ (w : Warnings) (d : Bool) (tick : Tick) (distance : Distance) (b : Tick) (f : Ticks) (e : counts w ≡ flagged d false) (j : b.0 ≡ base_tick tick.0 distance) (v : receiver_with f no_parts ≡ finished_at tick.0) (area : List ℕ) where
  pub single-settled : (n : ℕ) (s crc : ℤ) (second second' : List ℕ) → s ≡ crc → second' ≡ second → settled (flagged d false) (whole tick.0 distance (some (record { length = n; crc = crc })) area second) ≡ taken (record { answer = Ok (Some (received.Delta tick b n s)); warnings = w; ticks = f }) no_parts area second'
  unfolding settled
  single-settled n s crc second second' k l = rw (e, j, k, l, v)

  pub empty-settled : (second : List ℕ) → settled (flagged d false) (whole tick.0 distance none area second) ≡ taken (record { answer = Ok (Some (received.Empty tick b)); warnings = w; ticks = f }) no_parts area second
  unfolding settled
  empty-settled second = rw (e, j, v)

-- ---- an empty message

empty-ending : (r : Receiver) (area second : List ℕ) (t : Taken) (d : Bool) → leaves r area second (require true not_in_form >> (require true old_delta >> (warn_if d DuplicateSnap >> return t))) ≡ settled (flagged d false) t
unfolding leaves settled
empty-ending r area second t true = refl
empty-ending r area second t false = refl

module _ (r : Receiver) (tick : ℤ) (distance : Distance) where
  pub empty-47 : receiver_form r ≡ false → (area second : List ℕ) → snap_empty_call r tick distance area second ≡ refusing not_in_form r area second
  unfolding take_empty leaves
  empty-47 h area second = rw h

  module _ (h : receiver_form r ≡ true) where
    pub empty-20 : is_old r tick ≡ true → (area second : List ℕ) → snap_empty_call r tick distance area second ≡ refusing old_delta r area second
    unfolding take_empty leaves
    empty-20 o area second = rw (h, o)

    pub empty-taken : is_old r tick ≡ false → (area second : List ℕ) → snap_empty_call r tick distance area second ≡ settled (flagged (is_current r tick) false) (whole tick distance none area second)
    unfolding take_empty
    empty-taken o area second = rw (h, o) (empty-ending r area second (whole tick distance none area second) (is_current r tick))
