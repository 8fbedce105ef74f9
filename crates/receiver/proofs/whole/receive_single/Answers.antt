-- `whole::receive_single` meets its contract: refusal by refusal. Assumes nothing.
use mathlib.Core.Path.{◌≡◌, sym, ◌∙◌}
use mathlib.Core.Bool.{true, false}
use borrow.Author.Tests.{not-true, not-false}
use mir.Facts.{to_z-of_z}
use Rattle.definitions.specs.Receiver.{no_parts, receiver_form, is_current}
use Rattle.format.specs.Totals.{counts}
use Rattle.format.specs.Sources.{flagged}
use Rattle.ticks.specs.Ticks.{distance_of}
use Rattle.receiver.specs.States.{receiver_with}
use Rattle.receiver.proofs.Calls.{single-47, single-41, single-43, single-20, single-taken, single-settled}
use Rattle.std.proofs.Common.{w32}
use Rattle.receiver.proofs.whole.receive_single.Goals as goal
use Rattle.receiver.proofs.whole.receive_single.Lts as lts
use Rattle.receiver.proofs.whole.receive_single.Tie as tie
use Rattle.receiver.proofs.whole.receive_single.Reads as reads

abbrev After-received-warnings : Type 0
After-received-warnings = lts.After-received tie.the-claims reads.Pre reads.Post

abbrev Else-not-ticks_form : Type 0
Else-not-ticks_form = lts.Else1 tie.the-claims reads.Pre reads.Post

-- the receiver is in form
formed : (c : Else-not-ticks_form) → let a = c.args in receiver_form (receiver_with a.r a.lengths.now) ≡ true
formed c = sym (c.ticks_form.ensures c.args.lengths.now c.count_in-n.ensures.0) ∙ not-false _ c.if-not-ticks_form.false-raw

-- the warning
told : (c : After-received-warnings) → let a = c.args in counts c.received-warnings.result ≡ flagged (is_current (receiver_with a.r a.lengths.now) a.tick.0) false
told c =
    rw (c.is_current.ensures c.args.lengths.now) at c.received-warnings.ensures

pub returns-then-not-ticks_form : goal.returns-then-not-ticks_form
returns-then-not-ticks_form c area =
    let a = c.args in
    single-47 (receiver_with a.r a.lengths.now) a.tick.0 (distance_of a.delta_tick) a.crc a.«data».now a.joined.now (sym (c.ticks_form.ensures a.lengths.now c.count_in-n.ensures.0) ∙ not-true _ c.if-not-ticks_form.true-raw) area
    ∙ c.refused.ensures a.lengths.now area a.joined.now

pub returns-then-joined-lt-AREA_SIZE : goal.returns-then-joined-lt-AREA_SIZE
returns-then-joined-lt-AREA_SIZE c area =
    let a = c.args in
    single-41 (receiver_with a.r a.lengths.now) a.tick.0 (distance_of a.delta_tick) a.crc a.«data».now a.joined.now (formed c.before.before.before) c.if-joined-lt-AREA_SIZE.true area
    ∙ c.refused-then-joined-lt-AREA_SIZE.ensures a.lengths.now area a.joined.now

pub returns-then-data-gt-PART_SIZE : goal.returns-then-data-gt-PART_SIZE
returns-then-data-gt-PART_SIZE c area =
    let a = c.args in
    single-43 (receiver_with a.r a.lengths.now) a.tick.0 (distance_of a.delta_tick) a.crc a.«data».now a.joined.now (formed c.before.before.before.before) c.if-joined-lt-AREA_SIZE.false c.if-data-gt-PART_SIZE.true area
    ∙ c.refused-then-data-gt-PART_SIZE.ensures a.lengths.now area a.joined.now

pub returns-then-is_old : goal.returns-then-is_old
returns-then-is_old c area =
    let a = c.args in
    single-20 (receiver_with a.r a.lengths.now) a.tick.0 (distance_of a.delta_tick) a.crc a.«data».now a.joined.now (formed c.before.before.before.before.before.before) c.if-joined-lt-AREA_SIZE.false c.if-data-gt-PART_SIZE.false (sym (c.is_old.ensures a.lengths.now) ∙ c.if-is_old.true) area
    ∙ c.refused-then-is_old.ensures a.lengths.now area a.joined.now

pub returns : goal.returns
returns c area =
    let s = c in
    let a = s.args in
    single-taken (receiver_with a.r a.lengths.now) a.tick.0 (distance_of a.delta_tick) a.crc a.«data».now a.joined.now (formed c.before.before.before.before.before.before.before.before.before.before.before.before.before.before) c.if-joined-lt-AREA_SIZE.false c.if-data-gt-PART_SIZE.false (sym (c.is_old.ensures a.lengths.now) ∙ c.if-is_old.false) area
    ∙ single-settled c.received-warnings.result (is_current (receiver_with a.r a.lengths.now) a.tick.0) a.tick (distance_of a.delta_tick) _ c.without_current.result (told c.before.before.before.before.before.before.before.before) c.minus-base.ensures (c.without_current.ensures no_parts) area _ _ _ _ _ (to_z-of_z {w = w32} s.ranges.crc) c.put_bytes.ensures
