-- `checked::read_table` meets its contract, by the length of the input. Assumes nothing.
use mathlib.Core.Path.{refl}
use Rattle.table_text.proofs.Readings.{long-read, all_read}
use Rattle.table_text.proofs.checked.read_table.Goals as goal

pub returns-then-src-gt8192 : goal.returns-then-src-gt8192
returns-then-src-gt8192 c = long-read _ c.if-src-gt8192.true

pub returns : goal.returns
returns c =
    let r = c.read in
    let few = c.if-src-gt8192.false in
    let room = c.requires in
    all_read _ few _ _ 16384 _ room refl r.result.answer r.ensures.0
