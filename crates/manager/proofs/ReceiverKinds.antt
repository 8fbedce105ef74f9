-- What a receiver answers: its own kinds of warning, and no more bytes than a part area has. Assumes nothing.
use mathlib.Core.Path.{◌≡◌, refl}
use mathlib.Core.Bool.{Bool, true, false, cond, not, ◌&&◌}
use mathlib.Core.List.{List, []}
use mathlib.Core.Option.{Option, some, none}
use Prim.Native.Nat.{ℕ, zero, suc, ◌*◌, ◌≤◌}
use native.Mathlib.Omega.{arith}
use borrow.Author.Tests.{leb-true}
use lib.Dec.{leb, ltb, eqb}
use lib.IntN.{ℤ}
use lib.ListN.{length, get_or, take, drop, length-append, length-take}
use Rattle.definitions.specs.Areas.{lay_at}
use Rattle.definitions.specs.Refusals.{old_delta, invalid_num_parts, invalid_part, duplicate_part, scratch_too_short, part_too_long, not_in_form}
use Rattle.definitions.specs.Warnings.{DuplicateSnap, DifferingAttributes}
use Rattle.definitions.specs.Outcome.{Outcome}
use Rattle.definitions.specs.Tables.{num}
use Rattle.definitions.specs.Messages.{Distance, SnapMsg, Snap, SnapEmpty, SnapSingle}
use Rattle.definitions.specs.Receiver.{Receiver, Part, DataAndCrc, ReceivedDelta, Taken, Opened, is_in, count_in, part_in, joined, receiver_form, is_old, is_current, opened, differs, with_part, finish, wait, put_part, whole, take_snap, take_single, take_empty, leaves}
use Rattle.definitions.specs.Manager.{receive}
use Rattle.laws.specs.WarningKinds.{of_receiver, Told, value, refusal, receiving, returns, given, warns}

-- ---- how many bytes are joined

-- a part has at most 900
part-short : (l area : List ℕ) (p : ℕ) → length (part_in l area p) ≤ 900
part-short l area p = go (leb (get_or l p 901) 900) refl
  where
    short : (n : ℕ) (m : List ℕ) → length (take n m) ≤ n
    short n m = simp length-take (omega arith)

    go : (b : Bool) → leb (get_or l p 901) 900 ≡ b → length (cond b (take (get_or l p 901) (drop (900 * p) area)) []) ≤ 900
    go true e = omega (arith, leb-true (get_or l p 901) 900 e, short (get_or l p 901) (drop (900 * p) area))
    go false e = omega arith

joined-short : (l area : List ℕ) (n : ℕ) → length (joined l area n) ≤ 900 * n
unfolding joined
joined-short l area zero = omega arith
joined-short l area (suc n) =
    omega (arith, joined-short l area n, part-short l area n, length-append (joined l area n) (part_in l area n))

-- ---- what is received

-- bytes that were received, if any
abbrev pub FewBytes : Option DataAndCrc → Type 0
FewBytes (some x) = x.length ≤ 28800
FewBytes none = Unit {0}

abbrev pub Few : Option ReceivedDelta → Type 0
Few (some x) = FewBytes x.data_and_crc
Few none = Unit {0}

-- no bytes were received
abbrev pub NoBytes : Option ReceivedDelta → Type 0
NoBytes (some x) = x.data_and_crc ≡ none
NoBytes none = Unit {0}

abbrev FewTaken : Taken → Type 0
FewTaken t = Few t.received

put-few : (previous : Option ℤ) (o : Opened) (area second : List ℕ) → FewTaken (put_part previous o area second)
unfolding put_part
put-few previous o area second = go (eqb (count_in o.parts 32) o.current.num_parts)
  where
    go : (b : Bool) → FewTaken (cond b (finish o area second) (wait previous o area second))
    go true = omega (arith, joined-short o.parts area 32)
    go false = tt

module _ (r : Receiver) (area second : List ℕ) where
  snap-told : (m : Part) (bytes : List ℕ) → Told of_receiver FewTaken (take_snap r m bytes area second)
  unfolding take_snap
  snap-told m bytes =
      given receiving (receiver_form r) not_in_form
      (λ _. given receiving (leb 28800 (length area) && leb 28800 (length second)) scratch_too_short
      (λ _. given receiving (leb (length bytes) 900) part_too_long
      (λ _. given receiving (not (is_old r m.tick)) old_delta
      (λ _. given receiving (leb (num m.num_parts) 32) invalid_num_parts
      (λ _. given receiving (ltb (num m.part) (num m.num_parts)) invalid_part
      (λ _. warns receiving (differs (opened r m).current m) DifferingAttributes refl
      (given receiving (not (is_in (opened r m).parts (num m.part))) duplicate_part
      (λ _. returns receiving _ (put-few r.previous_tick (with_part (opened r m) (num m.part) (length bytes)) (lay_at (900 * num m.part) bytes area) second)))))))))

  single-told : (tick : ℤ) (d : Distance) (crc : ℤ) (bytes : List ℕ) → Told of_receiver FewTaken (take_single r tick d crc bytes area second)
  unfolding take_single
  single-told tick d crc bytes =
      given receiving (receiver_form r) not_in_form
      (λ _. given receiving (leb 28800 (length second)) scratch_too_short
      (λ _. given receiving (leb (length bytes) 900) part_too_long
      (λ e. given receiving (not (is_old r tick)) old_delta
      (λ _. warns receiving (is_current r tick) DuplicateSnap refl
      (returns receiving _ (omega (arith, leb-true (length bytes) 900 e)))))))

  empty-told : {P : Taken → Type 0} (tick : ℤ) (d : Distance) → P (whole tick d none area second) → Told of_receiver P (take_empty r tick d area second)
  unfolding take_empty
  empty-told tick d h =
      given receiving (receiver_form r) not_in_form
      (λ _. given receiving (not (is_old r tick)) old_delta
      (λ _. warns receiving (is_current r tick) DuplicateSnap refl (returns receiving _ h)))

  leaves-told : {P : Option ReceivedDelta → Type 0} {o : Outcome Taken} → Told of_receiver (λ (t : Taken). P t.received) o → Told of_receiver P (leaves r area second o).answer
  unfolding leaves
  leaves-told (value h e) = value h e
  leaves-told (refusal e) = refusal e

  -- whatever message comes
  pub receive-told : (m : SnapMsg) (bytes : List ℕ) → Told of_receiver Few (receive r m bytes area second).answer
  receive-told (Snap tick d n part crc) bytes = leaves-told {P = Few} (snap-told _ bytes)
  receive-told (SnapEmpty tick d) bytes = leaves-told {P = Few} (empty-told {P = FewTaken} tick d tt)
  receive-told (SnapSingle tick d crc) bytes = leaves-told {P = Few} (single-told tick d crc bytes)

  -- an empty one brings no bytes
  pub empty-brings : (tick : ℤ) (d : Distance) (bytes : List ℕ) → Told of_receiver NoBytes (receive r (SnapEmpty tick d) bytes area second).answer
  empty-brings tick d bytes = leaves-told {P = NoBytes} (empty-told {P = λ (t : Taken). NoBytes t.received} tick d refl)
