-- The tick that a part belongs to, and the result of taking a part. Assumes nothing.
use mathlib.Core.Path.{◌≡◌, sym, ◌∙◌}
use mathlib.Core.Bool.{Bool, true, false, not}
use mathlib.Core.List.{List}
use Prim.Native.Nat.{ℕ, ◌*◌}
use borrow.Author.Tests.{eq-eqb, ne_eqb}
use lib.IntN.{ℤ}
use lib.ListN.{length, set}
use Rattle.definitions.specs.Areas.{lay, lay_at}
use Rattle.definitions.specs.Tables.{num}
use Rattle.definitions.specs.Messages.{base_tick}
use Rattle.definitions.specs.Receiver as Receiver
use Rattle.format.specs.Totals.{counts}
use Rattle.format.specs.declared.Warnings.{Warnings}
use Rattle.format.specs.declared.Error.TheVariants as error
use Rattle.format.specs.Sources.{flagged}
use Rattle.ticks.specs.Ticks.{distance_of, tick_of}
use Rattle.std.specs.Prelude.{Option, Some, None, Ok, Err}
use Rattle.ticks.specs.declared.Tick.{Tick}
use Rattle.receiver.specs.declared.CurrentDelta.{CurrentDelta}
use Rattle.receiver.specs.declared.checked.Ticks.{Ticks}
use Rattle.receiver.specs.declared.checked.Part.{Part}
use Rattle.receiver.specs.declared.Received.TheVariants as received
use Rattle.receiver.specs.States.{current_in, receiver_with, opened_with, parts_for, part_of, Opens}
use Rattle.receiver.specs.Answers.{taken, settled, taking}

-- ---- whether a part's numbers differ

-- base and count are the first part's, so the sum decides
pub by-sum : (c : Receiver.Current) (m : Receiver.Part) (b : Bool) → Receiver.same (base_tick m.tick m.distance) c.delta_tick ≡ true → num m.num_parts ≡ c.num_parts → b ≡ Receiver.same m.crc c.crc → not b ≡ Receiver.differs c m
unfolding Receiver.differs
by-sum c m b h z e = rw (h, eq-eqb (num m.num_parts) c.num_parts z, e)

-- ---- the tick of a part

-- what the first part of a tick fixes
pub first_said : (m : Part) {b : Tick} {n : ℕ} {k : ℤ} → b.0 ≡ base_tick m.tick.0 (distance_of m.delta_tick) → n ≡ num m.num_parts → k ≡ m.crc → current_in (record { tick = m.tick; delta_tick = b; num_parts = n; crc = k }) ≡ Receiver.first_says (part_of m)
first_said m b n k = rw (b, n, k)

module _ (r : Ticks) (m : Part) where
  -- no tick is unfinished
  pub none_open : (o : CurrentDelta) → r.current ≡ None → current_in o ≡ Receiver.first_says (part_of m) → Opens r m o
  unfolding Receiver.is_current Receiver.opened
  none_open o e f lengths = rw (e, f)

  module _ (c : CurrentDelta) (e : r.current ≡ Some c) where
    -- it is the unfinished one
    pub still_open : Receiver.same c.tick.0 m.tick.0 ≡ true → Opens r m c
    unfolding Receiver.is_current Receiver.opened
    still_open h lengths = rw (e, h)

    -- it is a new one
    pub newly-open : (o : CurrentDelta) → Receiver.same c.tick.0 m.tick.0 ≡ false → current_in o ≡ Receiver.first_says (part_of m) → Opens r m o
    unfolding Receiver.is_current Receiver.opened
    newly-open o h f lengths = rw (e, h, f)

-- ---- a part came in

module _ (previous : Option Tick) (o : CurrentDelta) (w : Warnings) (n : ℕ) (lengths area second : List ℕ) (c : n ≡ Receiver.count_in lengths 32) where
  -- some are still missing
  pub waiting : (n ≡ o.num_parts → ⊥) → settled (counts w) (Receiver.put_part (tick_of previous) (opened_with o lengths) area second) ≡ taken (record { answer = Ok None; warnings = w; ticks = record { previous_tick = previous; current = Some o } }) lengths area second
  unfolding settled Receiver.put_part
  waiting z = rw (ne_eqb (Receiver.count_in lengths 32) o.num_parts (λ q. z (c ∙ q)))

  -- it was the last one missing
  pub all_in : (k : ℕ) (second' : List ℕ) (s : ℤ) (f : Ticks) → n ≡ o.num_parts → k ≡ length (Receiver.joined lengths area 32) → second' ≡ lay (Receiver.joined lengths area 32) second → s ≡ o.crc → receiver_with f Receiver.no_parts ≡ Receiver.finished_at o.tick.0 → settled (counts w) (Receiver.put_part (tick_of previous) (opened_with o lengths) area second) ≡ taken (record { answer = Ok (Some (received.Delta o.tick o.delta_tick k s)); warnings = w; ticks = f }) Receiver.no_parts area second'
  unfolding settled Receiver.put_part
  all_in k second' s f z e d u v =
      rw (eq-eqb (Receiver.count_in lengths 32) o.num_parts (sym c ∙ z), e, d, u, v)

-- ---- a part whose numbers were judged

module _ (r : Ticks) (m : Part) (p : ℕ) (lengths bytes area second : List ℕ) (b : Bool) (k : b ≡ Receiver.is_current (receiver_with r lengths) m.tick.0) (o : CurrentDelta) (w : Warnings) (q : Opens r m o) (e : counts w ≡ flagged false (Receiver.differs (current_in o) (part_of m))) where
  opens : opened_with o (parts_for b lengths) ≡ Receiver.opened (receiver_with r lengths) (part_of m)
  opens = rw k (q lengths)

  -- it is in already
  pub twice : Receiver.is_in (parts_for b lengths) p ≡ true → taking (receiver_with r lengths) (part_of m) p bytes area second ≡ taken (record { answer = Err error.DuplicatePart; warnings = w; ticks = r }) lengths area second
  unfolding taking
  twice h = rw (← opens, h, e)

  -- it is taken
  pub goes_in : (lengths' area' : List ℕ) (x : Receiver.Receives) → Receiver.is_in (parts_for b lengths) p ≡ false → lengths' ≡ set (parts_for b lengths) p (length bytes) → area' ≡ lay_at (900 * p) bytes area → settled (counts w) (Receiver.put_part (tick_of r.previous_tick) (opened_with o lengths') area' second) ≡ x → taking (receiver_with r lengths) (part_of m) p bytes area second ≡ x
  unfolding taking
  goes_in lengths' area' x h d a s = rw (← opens, h, ← d, ← e, ← a) s
