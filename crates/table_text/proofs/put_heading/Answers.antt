-- `table_text::put_heading` meets its contract, part by part. Assumes nothing.
use mir.Facts.{to_z-of_z}
use Rattle.table_text.proofs.Texts.{heading-put}
use Rattle.std.proofs.Common.{w32}
use Rattle.table_text.proofs.put_heading.Goals as goal

pub returns : goal.returns
returns c =
    let s = c in
    let word = c.put-end in
    let items = c.put_next-end in
    let word₂ = c.put-end-2 in
    let sum = c.put_int-end in
    heading-put s.args.items s.args.sum _ word.ensures items.ensures word₂.ensures (rw (to_z-of_z {w = w32} s.ranges.sum) at sum.ensures) c.put_byte.ensures.out_value
