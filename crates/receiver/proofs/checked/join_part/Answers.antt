-- `checked::join_part` meets its contract: by the part's length. Assumes nothing.
use Rattle.receiver.proofs.Parts.{absent}
use Rattle.receiver.proofs.checked.join_part.Goals as goal

pub returns-then-n-gt-PART_SIZE : goal.returns-then-n-gt-PART_SIZE
returns-then-n-gt-PART_SIZE c =
    let s = c in
    absent s.args.lengths.now s.requires.0 s.args.parts.now s.args.joined.now s.args.i s.args.at s.requires.1 c.if-n-gt-PART_SIZE.true
