-- A finished tick stays finished. Assumes nothing.
use Rattle.std.specs.Prelude.{◌≡◌, refl, Bool, true, false, cond, not, ◌&&◌, List, ℕ, ◌*◌, ◌≤◌, ltb, eqb, ℤ, length}
use Rattle.std.proofs.Common.{sym, ap, ◌∙◌, arith}
use Rattle.std.proofs.Math.Option.{Option, some, none}
use borrow.Author.Tests.{le-leb, leb-true, ltb-true, not-true}
use Rattle.std.proofs.Math.Dec.{leb}
use Rattle.definitions.specs.Areas.{lay, lay_at}
use Rattle.definitions.specs.Tables.{num}
use Rattle.definitions.specs.Ints.{signed_less}
use Rattle.definitions.specs.Refusals.{old_delta, invalid_num_parts, invalid_part, duplicate_part, scratch_too_short, part_too_long, not_in_form}
use Rattle.definitions.specs.Warnings.{Counts, DuplicateSnap, DifferingAttributes}
use Rattle.definitions.specs.Outcome.{Outcome, ok, err, refuse}
use Rattle.definitions.specs.Receiver.{Current, Receiver, Part, Opened, Taken, DataAndCrc, ReceivedDelta, Receives, finished_at, is_in, count_in, above_previous, receiver_form, old_for, is_old, is_current, opened, differs, finish, wait, with_part, put_part, take_snap, take_single, take_empty, whole, leaves, snap_call, snap_single_call, snap_empty_call}
use Rattle.definitions.specs.Messages.{Distance}
use Rattle.laws.specs.OutcomeLaws.{ok-value, ok-not-err}
use Rattle.laws.specs.TickLaws.{not-below-itself, not-below-further, not-below-back, below-before}
use Rattle.laws.specs.ReceiverForm.{OnTaken, on-require, on-warn, on-leaves, finished-form, form-begun, newer, opened-begun, snap-form, single-form, empty-form}

-- the last finished tick is t or above it
pub record Past (t : ℤ) (previous : Option ℤ) : Type 0 where
  pub last : ℤ
  pub is_last : previous ≡ some last
  pub not-below : signed_less last t ≡ false

-- tick t is finished for a receiver in form
pub record Finished (t : ℤ) (r : Receiver) : Type 0 where
  pub form : receiver_form r ≡ true
  pub past : Past t r.previous_tick

-- ---- a call that brings a delta finishes its tick

-- a delta that is brought leaves its tick as the last finished
abbrev Finishes : Taken → Type 0
Finishes t = (d : ReceivedDelta) → t.received ≡ some d → t.receiver ≡ finished_at d.tick

some_same : {A : Type 0} {a b : A} → some a ≡ some b → a ≡ b
some_same e = cc

none-not-some : {A : Type 0} {a : A} → none ≡ some a → ⊥
none-not-some e = let z : ◌≡◌ {A = ℕ} 0 1 = cc in omega arith

by-tick : (x d : ReceivedDelta) → some x ≡ some d → finished_at x.tick ≡ finished_at d.tick
by-tick x d e = ap (λ (y : ReceivedDelta). finished_at y.tick) (some_same e)

put-finishes : (previous : Option ℤ) (o : Opened) (area second : List ℕ) → Finishes (put_part previous o area second)
unfolding put_part
put-finishes previous o area second = go (eqb (count_in o.parts 32) o.current.num_parts)
  where
    go : (b : Bool) → Finishes (cond b (finish o area second) (wait previous o area second))
    go true d e = by-tick _ d e
    go false d e = absurd (none-not-some e)

whole-finishes : (tick : ℤ) (distance : Distance) (x : Option DataAndCrc) (area second : List ℕ) → Finishes (whole tick distance x area second)
whole-finishes tick distance x area second d e = by-tick _ d e

finishing : (r : Receiver) (area second : List ℕ) (o : Outcome Taken) (d : ReceivedDelta) (w : Counts) → OnTaken Finishes o → (leaves r area second o).answer ≡ ok (some d) w → (leaves r area second o).receiver ≡ finished_at d.tick
unfolding leaves
finishing r area second (ok t v) d w h e = h d (ok-value e)
finishing r area second (err n v) d w h e = absurd (ok-not-err (sym e))

module _ (r : Receiver) (d : ReceivedDelta) (w : Counts) (area second : List ℕ) where
  pub snap-finishes : (m : Part) (bytes : List ℕ) → (snap_call r m bytes area second).answer ≡ ok (some d) w → (snap_call r m bytes area second).receiver ≡ finished_at d.tick
  unfolding take_snap
  snap-finishes m bytes e =
      finishing r area second (take_snap r m bytes area second) d w
      (on-require Finishes (receiver_form r) not_in_form _
      (λ _. on-require Finishes (leb 28800 (length area) && leb 28800 (length second)) scratch_too_short _
      (λ _. on-require Finishes (leb (length bytes) 900) part_too_long _
      (λ _. on-require Finishes (not (is_old r m.tick)) old_delta _
      (λ _. on-require Finishes (leb (num m.num_parts) 32) invalid_num_parts _
      (λ _. on-require Finishes (ltb (num m.part) (num m.num_parts)) invalid_part _
      (λ _. on-warn Finishes (differs (opened r m).current m) DifferingAttributes _
      (on-require Finishes (not (is_in (opened r m).parts (num m.part))) duplicate_part _
      (λ _. put-finishes r.previous_tick (with_part (opened r m) (num m.part) (length bytes)) (lay_at (900 * num m.part) bytes area) second))))))))) e

  pub single-finishes : (tick : ℤ) (distance : Distance) (crc : ℤ) (bytes : List ℕ) → (snap_single_call r tick distance crc bytes area second).answer ≡ ok (some d) w → (snap_single_call r tick distance crc bytes area second).receiver ≡ finished_at d.tick
  unfolding take_single
  single-finishes tick distance crc bytes e =
      finishing r area second (take_single r tick distance crc bytes area second) d w
      (on-require Finishes (receiver_form r) not_in_form _
      (λ _. on-require Finishes (leb 28800 (length second)) scratch_too_short _
      (λ _. on-require Finishes (leb (length bytes) 900) part_too_long _
      (λ _. on-require Finishes (not (is_old r tick)) old_delta _
      (λ _. on-warn Finishes (is_current r tick) DuplicateSnap _ (whole-finishes tick distance _ area (lay bytes second))))))) e

  pub empty-finishes : (tick : ℤ) (distance : Distance) → (snap_empty_call r tick distance area second).answer ≡ ok (some d) w → (snap_empty_call r tick distance area second).receiver ≡ finished_at d.tick
  unfolding take_empty
  empty-finishes tick distance e =
      finishing r area second (take_empty r tick distance area second) d w
      (on-require Finishes (receiver_form r) not_in_form _
      (λ _. on-require Finishes (not (is_old r tick)) old_delta _
      (λ _. on-warn Finishes (is_current r tick) DuplicateSnap _ (whole-finishes tick distance none area second)))) e

-- the tick that a receiver has just finished
pub finished-now : (t : ℤ) → Finished t (finished_at t)
finished-now t = record { form = finished-form t; past = record { last = t; is_last = refl; not-below = not-below-itself t } }

-- ---- every call leaves it finished

-- a tick above the last finished is finished
later : (t tick : ℤ) (previous : Option ℤ) → Past t previous → above_previous previous tick ≡ true → Past t (some tick)
later t tick previous h a =
    let e : signed_less h.last tick ≡ true = rw h.is_last at a in
    record {
      last = tick;
      is_last = refl;
      not-below = not-below-further tick h.last t (not-below-back h.last tick e) h.not-below;
    }

put-past : (t : ℤ) (previous : Option ℤ) (o : Opened) (area second : List ℕ) → Past t previous → above_previous previous o.current.tick ≡ true → Past t (put_part previous o area second).receiver.previous_tick
unfolding put_part
put-past t previous o area second h a = go (eqb (count_in o.parts 32) o.current.num_parts)
  where
    go : (b : Bool) → Past t (cond b (finish o area second) (wait previous o area second)).receiver.previous_tick
    go true = later t o.current.tick previous h a
    go false = h

module _ (t : ℤ) (r : Receiver) (f : Finished t r) (area second : List ℕ) where
  -- what is taken leaves t finished
  abbrev Keeps : Taken → Type 0
  Keeps k = Past t k.receiver.previous_tick

  above : (tick : ℤ) → is_old r tick ≡ false → above_previous r.previous_tick tick ≡ true
  unfolding is_old
  above tick e = newer r.previous_tick r.current r.parts tick f.form e

  kept : (o : Outcome Taken) → OnTaken Keeps o → receiver_form (leaves r area second o).receiver ≡ true → Finished t (leaves r area second o).receiver
  kept o h e =
      record { form = e; past = on-leaves (λ (q : Receiver). Past t q.previous_tick) r area second o f.past h }

  pub snap-keeps : (m : Part) (bytes : List ℕ) → Finished t (snap_call r m bytes area second).receiver
  unfolding take_snap
  snap-keeps m bytes =
      kept (take_snap r m bytes area second)
      (on-require Keeps (receiver_form r) not_in_form _
      (λ _. on-require Keeps (leb 28800 (length area) && leb 28800 (length second)) scratch_too_short _
      (λ _. on-require Keeps (leb (length bytes) 900) part_too_long _
      (λ _. on-require Keeps (not (is_old r m.tick)) old_delta _
      (λ o. on-require Keeps (leb (num m.num_parts) 32) invalid_num_parts _
      (λ n. on-require Keeps (ltb (num m.part) (num m.num_parts)) invalid_part _
      (λ p. on-warn Keeps (differs (opened r m).current m) DifferingAttributes _
      (on-require Keeps (not (is_in (opened r m).parts (num m.part))) duplicate_part _
      (λ _.
      let less = ltb-true (num m.part) (num m.num_parts) p in
      put-past t r.previous_tick (with_part (opened r m) (num m.part) (length bytes)) (lay_at (900 * num m.part) bytes area) second f.past (opened-begun r m f.form (not-true (is_old r m.tick) o) (leb-true (num m.num_parts) 32 n) (omega arith)).rises))))))))) (snap-form r m bytes area second f.form)

  pub single-keeps : (tick : ℤ) (distance : Distance) (crc : ℤ) (bytes : List ℕ) → Finished t (snap_single_call r tick distance crc bytes area second).receiver
  unfolding take_single
  single-keeps tick distance crc bytes =
      kept (take_single r tick distance crc bytes area second)
      (on-require Keeps (receiver_form r) not_in_form _
      (λ _. on-require Keeps (leb 28800 (length second)) scratch_too_short _
      (λ _. on-require Keeps (leb (length bytes) 900) part_too_long _
      (λ _. on-require Keeps (not (is_old r tick)) old_delta _
      (λ o. on-warn Keeps (is_current r tick) DuplicateSnap _ (later t tick r.previous_tick f.past (above tick (not-true (is_old r tick) o)))))))) (single-form r tick distance crc bytes area second f.form)

  pub empty-keeps : (tick : ℤ) (distance : Distance) → Finished t (snap_empty_call r tick distance area second).receiver
  unfolding take_empty
  empty-keeps tick distance =
      kept (take_empty r tick distance area second)
      (on-require Keeps (receiver_form r) not_in_form _
      (λ _. on-require Keeps (not (is_old r tick)) old_delta _
      (λ o. on-warn Keeps (is_current r tick) DuplicateSnap _ (later t tick r.previous_tick f.past (above tick (not-true (is_old r tick) o)))))) (empty-form r tick distance area second f.form)

-- ---- and no message of it is taken again

old-for : (t tick last : ℤ) (current : Option Current) (l : List ℕ) → receiver_form (record { previous_tick = some last; current = current; parts = l }) ≡ true → signed_less last t ≡ false → signed_less t tick ≡ false → old_for (some last) current tick ≡ true
old-for t tick last none l f h e = rw (not-below-further last t tick h e)
old-for t tick last (some c) l f h e =
    below-before tick last c.tick (form-begun (some last) c l f).rises (not-below-further last t tick h e)

-- a tick not above a finished one is old
pub finished-old : (t tick : ℤ) (r : Receiver) → Finished t r → signed_less t tick ≡ false → is_old r tick ≡ true
unfolding is_old
finished-old t tick r f e =
    let p = f.past in
    let g : receiver_form (record { previous_tick = some p.last; current = r.current; parts = r.parts }) ≡ true = ap (λ (q : Option ℤ). receiver_form (record { previous_tick = q; current = r.current; parts = r.parts })) (sym p.is_last) ∙ f.form in
    rw p.is_last (old-for t tick p.last r.current r.parts g p.not-below e)

module _ (t : ℤ) (r : Receiver) (f : Finished t r) (area second : List ℕ) where
  -- nothing but the refusal
  abbrev pub old_answer : Receives
  old_answer = record { answer = refuse old_delta; receiver = r; parts = area; joined = second }

  pub snap-old : (m : Part) (bytes : List ℕ) → signed_less t m.tick ≡ false → 28800 ≤ length area → 28800 ≤ length second → length bytes ≤ 900 → snap_call r m bytes area second ≡ old_answer
  unfolding take_snap leaves
  snap-old m bytes e k l b =
      rw (f.form, le-leb 28800 (length area) k, le-leb 28800 (length second) l, le-leb (length bytes) 900 b, finished-old t m.tick r f e)

  pub single-old : (tick : ℤ) (distance : Distance) (crc : ℤ) (bytes : List ℕ) → signed_less t tick ≡ false → 28800 ≤ length second → length bytes ≤ 900 → snap_single_call r tick distance crc bytes area second ≡ old_answer
  unfolding take_single leaves
  single-old tick distance crc bytes e l b =
      rw (f.form, le-leb 28800 (length second) l, le-leb (length bytes) 900 b, finished-old t tick r f e)

  pub empty-old : (tick : ℤ) (distance : Distance) → signed_less t tick ≡ false → snap_empty_call r tick distance area second ≡ old_answer
  unfolding take_empty leaves
  empty-old tick distance e = rw (f.form, finished-old t tick r f e)
