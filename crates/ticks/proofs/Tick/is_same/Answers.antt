-- `Tick::is_same` meets its contract: equal ints have equal bits. Assumes nothing.
use Rattle.std.proofs.Common.{◌∙◌, SFits, w32, rules}
use Rattle.ints.specs.Same.{equal-same}
use Rattle.ticks.proofs.Tick.is_same.Goals as goal

pub returns : goal.returns
returns c =
    let f : SFits w32 c.args.self.0 = search rules in
    let g : SFits w32 c.args.other.0 = search rules in
    c.eq.ensures ∙ equal-same f g
