-- `checked::is_current` meets its contract: by whether a tick is unfinished. Assumes nothing.
use mathlib.Core.Path.{◌≡◌, ◌∙◌}
use Rattle.std.proofs.Common.{SFits, w32, rules}
use Rattle.definitions.specs.Receiver.{is_current, same}
use Rattle.ints.specs.Same.{equal-same}
use Rattle.receiver.proofs.checked.is_current.Goals as goal

pub returns-in_default : goal.returns-in_default
unfolding is_current
returns-in_default c lengths = rw c.in_default.is

pub returns : goal.returns
unfolding is_current
returns c lengths =
    let f : SFits w32 c.in-Some.c.tick.0 = search rules in
    let g : SFits w32 c.args.tick.0 = search rules in
    let e : c.eq.result ≡ same c.in-Some.c.tick.0 c.args.tick.0 = c.eq.ensures ∙ equal-same f g in
    rw c.in-Some.is e
