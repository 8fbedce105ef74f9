-- A receiver in form stays in form, whatever message comes. Assumes nothing.
use Rattle.std.specs.Prelude.{◌≡◌, Bool, true, false, cond, not, ◌&&◌, List, ◌⊎◌, ℕ, ◌+◌, ◌*◌, ◌≤◌, ◌<◌, leb, ltb, eqb, ℤ, length, set}
use Rattle.std.proofs.Math.Path.{refl}
use Rattle.std.proofs.Common.{sym, inl, inr, ⊎_elim, arith, lt-ltb, le-leb, leb-true, ltb-true}
use Rattle.std.proofs.Math.Option.{Option, some, none}
use Rattle.std.proofs.lemmas.Bool.{eqb-false, not-true, not-false}
use Rattle.std.proofs.Math.Seq.{set_out}
use Rattle.definitions.specs.Areas.{lay_at}
use Rattle.definitions.specs.Tables.{num}
use Rattle.definitions.specs.Ints.{signed_less}
use Rattle.definitions.specs.Refusals.{old_delta, invalid_num_parts, invalid_part, duplicate_part, scratch_too_short, part_too_long, not_in_form}
use Rattle.definitions.specs.Warnings.{Counts, Warning, DuplicateSnap, DifferingAttributes, one, none as no-warning}
use Rattle.definitions.specs.Outcome.{Outcome, ok, err, after, require, warn_if, ◌>>◌}
use Rattle.definitions.specs.Receiver.{Current, Receiver, Part, Opened, Taken, no_parts, fresh_receiver, finished_at, is_in, count_in, above_previous, receiver_form, same, old_for, is_old, is_current, first_says, opened_for, opened, differs, finish, wait, with_part, put_part, take_snap, take_single, take_empty, leaves, snap_call, snap_single_call, snap_empty_call}
use Rattle.definitions.specs.Messages.{Distance}
use Rattle.laws.specs.Tests.{below}
use Rattle.laws.specs.TickLaws.{both_ways, below-further}
use Rattle.laws.specs.PartCounts.{count-more}

-- ---- what is so of a message that is taken

module _ (P : Taken → Type 0) where
  -- P holds of the result if a message is taken
  abbrev pub OnTaken : Outcome Taken → Type 0
  OnTaken (ok t w) = P t
  OnTaken (err n w) = Unit {0}

  on-after : (w : Counts) (o : Outcome Taken) → OnTaken o → OnTaken (after w o)
  on-after w (ok t v) h = h
  on-after w (err n v) h = tt

  -- behind a test
  pub on-require : (b : Bool) (n : ℕ) (o : Outcome Taken) → (b ≡ true → OnTaken o) → OnTaken (require b n >> o)
  on-require true n o h = on-after no-warning o (h refl)
  on-require false n o h = tt

  -- behind a warning
  pub on-warn : (b : Bool) (k : Warning) (o : Outcome Taken) → OnTaken o → OnTaken (warn_if b k >> o)
  on-warn true k o h = on-after (one k) o h
  on-warn false k o h = on-after no-warning o h

-- what a call leaves is what was taken, or what was there
pub on-leaves : (Q : Receiver → Type 0) (r : Receiver) (area second : List ℕ) (o : Outcome Taken) → Q r → OnTaken (λ t. Q t.receiver) o → Q (leaves r area second o).receiver
unfolding leaves
on-leaves Q r area second (ok t w) q h = h
on-leaves Q r area second (err n w) q h = q

-- ---- form

-- without an unfinished tick
pub finished-form : (t : ℤ) → receiver_form (finished_at t) ≡ true
unfolding receiver_form count_in
finished-form t = refl

-- a receiver without any tick is in form
pub fresh-form : receiver_form fresh_receiver ≡ true
unfolding receiver_form count_in
fresh-form = refl

and_left : (a b : Bool) → (a && b) ≡ true → a ≡ true
and_left true b e = refl
and_left false b e = both_ways (sym e)

and_right : (a b : Bool) → (a && b) ≡ true → b ≡ true
and_right true b e = e
and_right false b e = both_ways (sym e)

-- what is known of an unfinished tick that a part may go into
pub record Begun (previous : Option ℤ) (o : Opened) : Type 0 where
  pub rises : above_previous previous o.current.tick ≡ true
  pub few : o.current.num_parts ≤ 32
  pub missing : count_in o.parts 32 < o.current.num_parts
  pub begun : (0 < count_in o.parts 32) ⊎ (length o.parts ≡ 32)

-- an unfinished tick with some parts in and some missing is in form
pub begun-form : (previous : Option ℤ) (o : Opened) → Begun previous o → 0 < count_in o.parts 32 → receiver_form (record { previous_tick = previous; current = some o.current; parts = o.parts }) ≡ true
unfolding receiver_form
begun-form previous o b h =
    rw (b.rises, le-leb o.current.num_parts 32 b.few, lt-ltb 0 (count_in o.parts 32) h, lt-ltb (count_in o.parts 32) o.current.num_parts b.missing)

-- the unfinished tick of a receiver in form
pub form-begun : (previous : Option ℤ) (c : Current) (l : List ℕ) → receiver_form (record { previous_tick = previous; current = some c; parts = l }) ≡ true → Begun previous (record { current = c; parts = l })
unfolding receiver_form
form-begun previous c l e =
    let g = and_right (above_previous previous c.tick) _ e in
    let h = and_right (leb c.num_parts 32) _ g in
    record {
      rises = and_left (above_previous previous c.tick) _ e;
      few = leb-true c.num_parts 32 (and_left (leb c.num_parts 32) _ g);
      missing = ltb-true (count_in l 32) c.num_parts (and_right (ltb 0 (count_in l 32)) _ h);
      begun = inl (ltb-true 0 (count_in l 32) (and_left (ltb 0 (count_in l 32)) _ h));
    }

-- ---- a part more

-- some are missing still
more-in : (previous : Option ℤ) (o : Opened) (p n : ℕ) → Begun previous o → p < 32 → n ≤ 900 → is_in o.parts p ≡ false → (count_in (set o.parts p n) 32 ≡ o.current.num_parts → ⊥) → receiver_form (record { previous_tick = previous; current = some o.current; parts = set o.parts p n }) ≡ true
more-in previous o p n b h k a z =
    ⊎_elim
    (λ (s : p < length o.parts).
    let e : count_in (set o.parts p n) 32 ≡ count_in o.parts 32 + 1 = count-more o.parts p n k s a 32 h in
    let m : count_in (set o.parts p n) 32 < o.current.num_parts = less (count_in o.parts 32) (count_in (set o.parts p n) 32) o.current.num_parts e b.missing z in
    begun-form previous (with_part o p n) (record { rises = b.rises; few = b.few; missing = m; begun = inl (omega arith) }) (omega arith))
    (λ (s : length o.parts ≤ p).
    let e : set o.parts p n ≡ o.parts = set_out o.parts p n s in
    rw e (begun-form previous o b (⊎_elim (λ (i : 0 < count_in o.parts 32). i) (λ (i : length o.parts ≡ 32). absurd (omega arith)) b.begun)))
    (below p (length o.parts))
  where
    less : (a b c : ℕ) → b ≡ a + 1 → a < c → (b ≡ c → ⊥) → b < c
    less a b c e l z = omega arith

-- what a part that goes in leaves is in form
put-form : (previous : Option ℤ) (o : Opened) (p n : ℕ) (area second : List ℕ) → Begun previous o → p < 32 → n ≤ 900 → is_in o.parts p ≡ false → receiver_form (put_part previous (with_part o p n) area second).receiver ≡ true
unfolding put_part
put-form previous o p n area second b h k a = go (eqb (count_in (set o.parts p n) 32) o.current.num_parts) refl
  where
    go : (t : Bool) → eqb (count_in (set o.parts p n) 32) o.current.num_parts ≡ t → receiver_form (cond t (finish (with_part o p n) area second) (wait previous (with_part o p n) area second)).receiver ≡ true
    go true e = finished-form o.current.tick
    go false e = more-in previous o p n b h k a (eqb-false (count_in (set o.parts p n) 32) o.current.num_parts e)

-- ---- the tick of a part

-- a tick that is not old is above the last finished
pub newer : (previous : Option ℤ) (current : Option Current) (l : List ℕ) (tick : ℤ) → receiver_form (record { previous_tick = previous; current = current; parts = l }) ≡ true → old_for previous current tick ≡ false → above_previous previous tick ≡ true
newer none current l tick f e = refl
newer (some t) none l tick f e = not-false (signed_less t tick) e
newer (some t) (some c) l tick f e = below-further t c.tick tick (form-begun (some t) c l f).rises e

-- the first part of a tick
first-begun : (previous : Option ℤ) (m : Part) → above_previous previous m.tick ≡ true → num m.num_parts ≤ 32 → 0 < num m.num_parts → Begun previous (record { current = first_says m; parts = no_parts })
first-begun previous m a n z =
    record { rises = a; few = n; missing = rw none_in z; begun = inr refl }
  where
    none_in : count_in no_parts 32 ≡ 0
    none_in = unfold count_in in refl

for-begun : (previous : Option ℤ) (current : Option Current) (l : List ℕ) (m : Part) → receiver_form (record { previous_tick = previous; current = current; parts = l }) ≡ true → old_for previous current m.tick ≡ false → num m.num_parts ≤ 32 → 0 < num m.num_parts → Begun previous (opened_for current l m)
for-begun previous none l m f e n z = first-begun previous m (newer previous none l m.tick f e) n z
for-begun previous (some c) l m f e n z = go (same c.tick m.tick)
  where
    go : (b : Bool) → Begun previous (cond b (record { current = c; parts = l }) (record { current = first_says m; parts = no_parts }))
    go true = form-begun previous c l f
    go false = first-begun previous m (newer previous (some c) l m.tick f e) n z

-- the tick that a part belongs to
pub opened-begun : (r : Receiver) (m : Part) → receiver_form r ≡ true → is_old r m.tick ≡ false → num m.num_parts ≤ 32 → 0 < num m.num_parts → Begun r.previous_tick (opened r m)
unfolding is_old opened
opened-begun r m f e n z = for-begun r.previous_tick r.current r.parts m f e n z

-- ---- the calls

-- what is taken leaves a receiver in form
abbrev Formed : Taken → Type 0
Formed t = receiver_form t.receiver ≡ true

-- a part leaves a receiver in form
pub snap-form : (r : Receiver) (m : Part) (bytes area second : List ℕ) → receiver_form r ≡ true → receiver_form (snap_call r m bytes area second).receiver ≡ true
unfolding take_snap
snap-form r m bytes area second f =
    on-leaves (λ (q : Receiver). receiver_form q ≡ true) r area second (take_snap r m bytes area second) f
    (on-require Formed (receiver_form r) not_in_form _
    (λ _. on-require Formed (leb 28800 (length area) && leb 28800 (length second)) scratch_too_short _
    (λ _. on-require Formed (leb (length bytes) 900) part_too_long _
    (λ b. on-require Formed (not (is_old r m.tick)) old_delta _
    (λ o. on-require Formed (leb (num m.num_parts) 32) invalid_num_parts _
    (λ n. on-require Formed (ltb (num m.part) (num m.num_parts)) invalid_part _
    (λ p. on-warn Formed (differs (opened r m).current m) DifferingAttributes _
    (on-require Formed (not (is_in (opened r m).parts (num m.part))) duplicate_part _
    (λ a.
    let few = leb-true (num m.num_parts) 32 n in
    let less = ltb-true (num m.part) (num m.num_parts) p in
    put-form r.previous_tick (opened r m) (num m.part) (length bytes) (lay_at (900 * num m.part) bytes area) second (opened-begun r m f (not-true (is_old r m.tick) o) few (omega arith)) (omega arith) (leb-true (length bytes) 900 b) (not-true (is_in (opened r m).parts (num m.part)) a))))))))))

-- a single message leaves a receiver in form
pub single-form : (r : Receiver) (tick : ℤ) (distance : Distance) (crc : ℤ) (bytes area second : List ℕ) → receiver_form r ≡ true → receiver_form (snap_single_call r tick distance crc bytes area second).receiver ≡ true
unfolding take_single
single-form r tick distance crc bytes area second f =
    on-leaves (λ (q : Receiver). receiver_form q ≡ true) r area second (take_single r tick distance crc bytes area second) f
    (on-require Formed (receiver_form r) not_in_form _
    (λ _. on-require Formed (leb 28800 (length second)) scratch_too_short _
    (λ _. on-require Formed (leb (length bytes) 900) part_too_long _
    (λ _. on-require Formed (not (is_old r tick)) old_delta _
    (λ _. on-warn Formed (is_current r tick) DuplicateSnap _ (finished-form tick))))))

-- an empty message leaves a receiver in form
pub empty-form : (r : Receiver) (tick : ℤ) (distance : Distance) (area second : List ℕ) → receiver_form r ≡ true → receiver_form (snap_empty_call r tick distance area second).receiver ≡ true
unfolding take_empty
empty-form r tick distance area second f =
    on-leaves (λ (q : Receiver). receiver_form q ≡ true) r area second (take_empty r tick distance area second) f
    (on-require Formed (receiver_form r) not_in_form _
    (λ _. on-require Formed (not (is_old r tick)) old_delta _
    (λ _. on-warn Formed (is_current r tick) DuplicateSnap _ (finished-form tick))))
