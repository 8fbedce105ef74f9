-- When the receiver counts the warning DifferingAttributes. Assumes nothing.
use Rattle.std.specs.Prelude.{◌≡◌, refl, Bool, true, false, cond, not, ◌&&◌, ◌||◌, List, ℕ, ◌*◌, ◌≤◌, ◌<◌, eqb, leb, ltb, ℤ, pos, length}
use Rattle.std.proofs.Common.{sym, ap, ◌∙◌, ⊎_elim, arith, eq-eqb, ne_eqb}
use Rattle.std.proofs.Math.Bool.{or-true}
use Rattle.definitions.specs.Areas.{lay_at}
use Rattle.definitions.specs.Ints.{bits}
use Rattle.definitions.specs.Tables.{num}
use Rattle.definitions.specs.Refusals.{old_delta, invalid_num_parts, invalid_part, duplicate_part, scratch_too_short, part_too_long, not_in_form}
use Rattle.definitions.specs.Warnings.{Counts, DifferingAttributes, one, none as no-warning}
use Rattle.definitions.specs.Outcome.{ok, err, return, require, warn_if, ◌>>◌}
use Rattle.definitions.specs.Messages.{Distance, SnapMsg, Snap, SnapEmpty, SnapSingle, Message, distance, base_tick, num_parts, part_message, delta_chunks}
use Rattle.definitions.specs.Receiver.{Current, Receiver, Part, Taken, is_in, receiver_form, same, is_old, first_says, opened, differs, with_part, put_part, take_snap, leaves, snap_call}
use Rattle.laws.specs.Tests.{below}
use Rattle.laws.specs.ListLaws.{Among, among_one, among-list}
use Rattle.laws.specs.CutLaws.{chunks-none, chunks-single, chunks-parts}

-- ---- base, count and sum

-- one of three tests fails
first-fails : (u v w : Bool) → u ≡ false → (not u || (not v || not w)) ≡ true
first-fails u v w e = rw e

second-fails : (u v w : Bool) → v ≡ false → (not u || (not v || not w)) ≡ true
second-fails u v w e = rw e (or-true (not u))

third-fails : (u v w : Bool) → w ≡ false → (not u || (not v || not w)) ≡ true
third-fails u v w e = rw (e, or-true (not v)) (or-true (not u))

-- none of them does
none-fails : (u v w : Bool) → u ≡ true → v ≡ true → w ≡ true → (not u || (not v || not w)) ≡ false
none-fails u v w e f g = rw (e, f, g)

module _ (c : Current) (m : Part) where
  abbrev same_base : Bool
  same_base = same (base_tick m.tick m.distance) c.delta_tick

  abbrev same_count : Bool
  same_count = eqb (num m.num_parts) c.num_parts

  abbrev same_sum : Bool
  same_sum = same m.crc c.crc

  -- a part of another base differs
  pub other-base : (bits (base_tick m.tick m.distance) ≡ bits c.delta_tick → ⊥) → differs c m ≡ true
  unfolding differs
  other-base z =
      first-fails same_base same_count same_sum (ne_eqb (bits (base_tick m.tick m.distance)) (bits c.delta_tick) z)

  -- a part of another count differs
  pub other-count : (num m.num_parts ≡ c.num_parts → ⊥) → differs c m ≡ true
  unfolding differs
  other-count z = second-fails same_base same_count same_sum (ne_eqb (num m.num_parts) c.num_parts z)

  -- a part of another sum differs
  pub other-sum : (bits m.crc ≡ bits c.crc → ⊥) → differs c m ≡ true
  unfolding differs
  other-sum z = third-fails same_base same_count same_sum (ne_eqb (bits m.crc) (bits c.crc) z)

  -- no other part differs
  pub all_same : base_tick m.tick m.distance ≡ c.delta_tick → num m.num_parts ≡ c.num_parts → m.crc ≡ c.crc → differs c m ≡ false
  unfolding differs
  all_same e f g =
      none-fails same_base same_count same_sum
      (eq-eqb (bits (base_tick m.tick m.distance)) (bits c.delta_tick) (ap bits e))
      (eq-eqb (num m.num_parts) c.num_parts f) (eq-eqb (bits m.crc) (bits c.crc) (ap bits g))

-- the first part does not differ from what it says
pub first_alike : (m : Part) → differs (first_says m) m ≡ false
first_alike m = all_same (first_says m) m refl refl refl

-- ---- the parts of one delta

-- a part's numbers, as its message has them
abbrev pub numbers_in : Part → SnapMsg
numbers_in p = Snap p.tick p.distance p.num_parts p.part p.crc

empty-no-part : {t : ℤ} {d : Distance} {p : Part} → SnapEmpty t d ≡ numbers_in p → ⊥
empty-no-part e = let z : ◌≡◌ {A = ℕ} 0 1 = cc in omega arith

single-no-part : {t : ℤ} {d : Distance} {s : ℤ} {p : Part} → SnapSingle t d s ≡ numbers_in p → ⊥
single-no-part e = let z : ◌≡◌ {A = ℕ} 0 1 = cc in omega arith

-- what the part of such numbers says, if it comes first
part_says : {t : ℤ} {d : Distance} {n i s : ℤ} {p : Part} → Snap t d n i s ≡ numbers_in p → first_says p ≡ record { tick = t; delta_tick = base_tick t d; num_parts = num n; crc = s }
part_says {t} {d} {n} {i} {s} {p} e =
    let tick : p.tick ≡ t = cc in
    let distance : p.distance ≡ d = cc in
    let count : p.num_parts ≡ n = cc in
    let sum : p.crc ≡ s = cc in
    rw (tick, distance, count, sum) refl

module _ (t b : ℤ) (x : List ℕ) (s : ℤ) where
  -- every part of the delta says the same, if it comes first
  chunk-says : (m : Message) (p : Part) → Among m (delta_chunks t b x s) → m.numbers ≡ numbers_in p → first_says p ≡ record { tick = t; delta_tick = base_tick t (distance t b); num_parts = num (pos (num_parts x)); crc = s }
  chunk-says m p h e =
      ⊎_elim
      (λ (l : 900 < length x). part (among-list (part_message t (distance t b) x s) (num_parts x) m (rw (chunks-parts t b x s l) at h)))
      (λ (l : length x ≤ 900).
      ⊎_elim
      (λ (k : 0 < length x). absurd (single-no-part (numbers_of (among_one (rw (chunks-single t b x s k l) at h)))))
      (λ (k : length x ≤ 0). absurd (empty-no-part (numbers_of (among_one (rw (chunks-none t b x s (omega arith)) at h)))))
      (below 0 (length x)))
      (below 900 (length x))
    where
      numbers_of : {n : Message} → m ≡ n → n.numbers ≡ numbers_in p
      numbers_of q = sym (ap (λ (y : Message). y.numbers) q) ∙ e

      part : (i : ℕ) × (i < num_parts x) × (m ≡ part_message t (distance t b) x s i) → first_says p ≡ record { tick = t; delta_tick = base_tick t (distance t b); num_parts = num (pos (num_parts x)); crc = s }
      part (i, l, q) = part_says (numbers_of q)

  -- of the parts of one delta none differs from what the first to come said, whichever that is
  pub chunks-alike : (m n : Message) (p q : Part) → Among m (delta_chunks t b x s) → Among n (delta_chunks t b x s) → m.numbers ≡ numbers_in p → n.numbers ≡ numbers_in q → differs (first_says p) q ≡ false
  chunks-alike m n p q h k e f =
      ap (λ (c : Current). differs c q) (chunk-says m p h e ∙ sym (chunk-says n q k f)) ∙ first_alike q

-- ---- when it is counted

ending : (r : Receiver) (area second : List ℕ) (t : Taken) (d i : Bool) → leaves r area second (require true not_in_form >> (require true scratch_too_short >> (require true part_too_long >> (require true old_delta >> (require true invalid_num_parts >> (require true invalid_part >> (warn_if d DifferingAttributes >> (require (not i) duplicate_part >> return t)))))))) ≡ cond i (record { answer = err duplicate_part (cond d (one DifferingAttributes) no-warning); receiver = r; parts = area; joined = second }) (record { answer = ok t.received (cond d (one DifferingAttributes) no-warning); receiver = t.receiver; parts = t.parts; joined = t.joined })
unfolding leaves
ending r area second t true true = refl
ending r area second t true false = refl
ending r area second t false true = refl
ending r area second t false false = refl

-- the warning, if a part differs
abbrev pub differing : Receiver → Part → Counts
differing r m = cond (differs (opened r m).current m) (one DifferingAttributes) no-warning

module _ (r : Receiver) (m : Part) (bytes area second : List ℕ) where
  -- what is left if the part is taken
  abbrev pub putting : Taken
  putting =
      put_part r.previous_tick (with_part (opened r m) (num m.part) (length bytes)) (lay_at (900 * num m.part) bytes area) second

  -- a part that passes all tests but the last counts it, taken or refused with 23
  pub counted : receiver_form r ≡ true → (leb 28800 (length area) && leb 28800 (length second)) ≡ true → leb (length bytes) 900 ≡ true → is_old r m.tick ≡ false → leb (num m.num_parts) 32 ≡ true → ltb (num m.part) (num m.num_parts) ≡ true
      → snap_call r m bytes area second ≡ cond (is_in (opened r m).parts (num m.part)) (record { answer = err duplicate_part (differing r m); receiver = r; parts = area; joined = second }) (record { answer = ok putting.received (differing r m); receiver = putting.receiver; parts = putting.parts; joined = putting.joined })
  unfolding take_snap
  counted form rooms short new few within =
      rw (form, rooms, short, new, few, within)
      (ending r area second putting (differs (opened r m).current m) (is_in (opened r m).parts (num m.part)))
