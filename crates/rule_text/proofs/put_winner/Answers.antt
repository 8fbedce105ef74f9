-- `rule_text::put_winner` meets its contract, part by part. Assumes nothing.
use mir.Facts.{to_z-of_z}
use Rattle.rule_text.proofs.Lines.{winner-put}
use Rattle.std.proofs.Common.{w32}
use Rattle.rule_text.proofs.put_winner.Goals as goal

pub returns : goal.returns
returns c =
    let s = c in
    let key = c.put_int-end in
    let action = c.put_int-end-2 in
    let space = c.put_byte-end in
    let end = c.put_byte in
    winner-put _ _ _ (to_z-of_z {w = w32} s.ranges.key) (to_z-of_z {w = w32} s.ranges.action) key.ensures space.ensures.out_value action.ensures end.ensures.out_value
