-- `delta::clear` meets its contract: by whether three ints have room. Assumes nothing.
use Rattle.delta.proofs.Calls.{no_room, cleared-is}
use Rattle.delta.proofs.clear.Goals as goal

pub returns-then-out-lt3 : goal.returns-then-out-lt3
returns-then-out-lt3 c = no_room c.args.out.now c.if-out-lt3.true

pub returns : goal.returns
returns c = cleared-is c.args.out.now c.if-out-lt3.false
