-- `raw_snap::empty` meets its contract: by whether two ints have room. Assumes nothing.
use Rattle.raw_snap.proofs.Calls.{no_room, both_stored}
use Rattle.raw_snap.proofs.empty.Goals as goal

pub returns-then-out-lt2 : goal.returns-then-out-lt2
returns-then-out-lt2 c = no_room c.args.out.now c.if-out-lt2.true

pub returns : goal.returns
returns c = both_stored c.args.out.now c.if-out-lt2.false
