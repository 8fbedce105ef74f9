-- `table_text::put_item` meets its contract, part by part. Assumes nothing.
use mir.Facts.{to_z-of_z}
use Rattle.definitions.specs.Ints.{bits}
use Rattle.table_text.proofs.Texts.{item-line}
use Rattle.std.proofs.Common.{w32}
use Rattle.table_text.proofs.put_item.Goals as goal

pub returns : goal.returns
returns c =
    let s = c in
    let type = c.key_to_raw_type_id-raw_type_id in
    let id = c.key_to_id-id in
    let f = to_z-of_z {w = w32} s.ranges.key in
    item-line (bits s.args.key) type.result id.result s.args.count _ (rw f at type.ensures) (rw f at id.ensures)
    c.put_number-end.ensures c.put_next-end.ensures c.put_next-end-2.ensures c.put_byte.ensures.out_value
