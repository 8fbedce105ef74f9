-- `delta_chunks::chunk_data` meets its contract: by the length of the bytes and the place. Assumes nothing.
use Rattle.delta_chunks.proofs.Cuts.{too-long-bytes, whole, second, behind, last, full}
use Rattle.delta_chunks.proofs.chunk_data.Goals as goal

pub returns-then-data-gt-MAX_DATA : goal.returns-then-data-gt-MAX_DATA
returns-then-data-gt-MAX_DATA c tick base crc =
    let a = c.args in
    too-long-bytes tick base a.«data».now crc a.i c.if-data-gt-MAX_DATA.true

pub returns-then-i-eq0 : goal.returns-then-i-eq0
returns-then-i-eq0 c tick base crc =
    let a = c.args in
    whole tick base a.«data».now crc c.if-data-gt-MAX_DATA.false a.i c.if-data-le-MAX_SNAPSHOT_PACKSIZE.true c.if-i-eq0.true

pub returns-then-data-le-MAX_SNAPSHOT_PACKSIZE : goal.returns-then-data-le-MAX_SNAPSHOT_PACKSIZE
returns-then-data-le-MAX_SNAPSHOT_PACKSIZE c tick base crc =
    let a = c.args in
    second tick base a.«data».now crc c.if-data-gt-MAX_DATA.false a.i c.if-data-le-MAX_SNAPSHOT_PACKSIZE.true c.if-i-eq0.false

pub returns-then-div_ceil-i : goal.returns-then-div_ceil-i
returns-then-div_ceil-i c tick base crc =
    let a = c.args in
    behind tick base a.«data».now crc c.if-data-gt-MAX_DATA.false _ c.div_ceil.ensures a.i c.if-data-le-MAX_SNAPSHOT_PACKSIZE.false c.if-div_ceil-i.true

pub returns-then-data-from-le-MAX_SNAPSHOT_PACKSIZE : goal.returns-then-data-from-le-MAX_SNAPSHOT_PACKSIZE
returns-then-data-from-le-MAX_SNAPSHOT_PACKSIZE c tick base crc =
    let a = c.args in
    last tick base a.«data».now crc c.if-data-gt-MAX_DATA.false _ c.div_ceil.ensures a.i c.if-data-le-MAX_SNAPSHOT_PACKSIZE.false c.if-div_ceil-i.false c.if-data-from-le-MAX_SNAPSHOT_PACKSIZE.true

pub returns : goal.returns
returns c tick base crc =
    let a = c.args in
    full tick base a.«data».now crc c.if-data-gt-MAX_DATA.false _ c.div_ceil.ensures a.i c.if-data-le-MAX_SNAPSHOT_PACKSIZE.false c.if-div_ceil-i.false
