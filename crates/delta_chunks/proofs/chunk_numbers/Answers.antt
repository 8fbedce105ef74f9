-- `delta_chunks::chunk_numbers` meets its contract: by the length of the bytes and the place. Assumes nothing.
use Rattle.std.proofs.Common.{sym, ◌∙◌}
use borrow.Author.Tests.{eqb-true, eqb-false}
use borrow.Author.Rules.{rules}
use mir.Facts.{to_z-of_z}
use Rattle.delta_chunks.proofs.Cuts.{too_long, no_second, no_part, empty-told, single-told, part-told}
use Rattle.std.proofs.Common.{w32}
use Rattle.delta_chunks.proofs.chunk_numbers.Goals as goal

pub returns-then-data-gt-MAX_DATA : goal.returns-then-data-gt-MAX_DATA
returns-then-data-gt-MAX_DATA c =
    let a = c.args in
    too_long a.tick.0 a.delta_tick.0 a.«data».now a.crc a.i c.if-data-gt-MAX_DATA.true

pub returns-then-i-eq0 : goal.returns-then-i-eq0
returns-then-i-eq0 c =
    let a = c.args in
    empty-told a.tick.0 a.delta_tick.0 a.«data».now a.crc c.if-data-gt-MAX_DATA.false a.i _ (eqb-true _ 0 (sym c.is_empty.ensures ∙ c.if-is_empty.true)) c.if-i-eq0.true c.since-distance.ensures

pub returns-then-is_empty : goal.returns-then-is_empty
returns-then-is_empty c =
    let a = c.args in
    no_second a.tick.0 a.delta_tick.0 a.«data».now a.crc c.if-data-gt-MAX_DATA.false a.i (search rules) c.if-i-eq0.false

pub returns-then-i-eq0-2 : goal.returns-then-i-eq0-2
returns-then-i-eq0-2 c =
    let a = c.args in
    single-told a.tick.0 a.delta_tick.0 a.«data».now a.crc c.if-data-gt-MAX_DATA.false a.i _ _ (eqb-false _ 0 (sym c.is_empty.ensures ∙ c.if-is_empty.false)) c.if-data-le-MAX_SNAPSHOT_PACKSIZE.true c.if-i-eq0-2.true c.since-distance.ensures (to_z-of_z {w = w32} c.ranges.crc)

pub returns-then-data-le-MAX_SNAPSHOT_PACKSIZE : goal.returns-then-data-le-MAX_SNAPSHOT_PACKSIZE
returns-then-data-le-MAX_SNAPSHOT_PACKSIZE c =
    let a = c.args in
    no_second a.tick.0 a.delta_tick.0 a.«data».now a.crc c.if-data-gt-MAX_DATA.false a.i c.if-data-le-MAX_SNAPSHOT_PACKSIZE.true c.if-i-eq0-2.false

pub returns-then-n-i : goal.returns-then-n-i
returns-then-n-i c =
    let a = c.args in
    no_part a.tick.0 a.delta_tick.0 a.«data».now a.crc c.if-data-gt-MAX_DATA.false _ c.div_ceil-n.ensures a.i c.if-data-le-MAX_SNAPSHOT_PACKSIZE.false c.if-n-i.true

pub returns : goal.returns
returns c =
    let a = c.args in
    part-told a.tick.0 a.delta_tick.0 a.«data».now a.crc c.if-data-gt-MAX_DATA.false _ c.div_ceil-n.ensures a.i _ _ c.if-data-le-MAX_SNAPSHOT_PACKSIZE.false c.if-n-i.false c.since-distance.ensures (to_z-of_z {w = w32} c.ranges.crc)
