-- `checked::is_old` meets its contract: by whether a tick is unfinished. Assumes nothing.
use mathlib.Core.Path.{◌≡◌, ◌∙◌}
use Rattle.definitions.specs.Ints.{signed_less}
use Rattle.definitions.specs.Receiver.{is_old}
use Rattle.receiver.proofs.Forms.{less-is}
use Rattle.receiver.proofs.checked.is_old.Goals as goal

pub returns-in_default : goal.returns-in_default
unfolding is_old
returns-in_default c lengths = rw (c.in_default.is, c.above_previous.ensures)

pub returns : goal.returns
unfolding is_old
returns c lengths =
    let l : c.lt.result ≡ signed_less c.args.tick.0 c.in-Some.c.tick.0 = c.lt.ensures ∙ less-is c.args.tick.0 c.in-Some.c.tick.0 in
    rw c.in-Some.is l
