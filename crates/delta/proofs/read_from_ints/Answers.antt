-- `delta::read_from_ints` meets its contract: what scratch held does not matter to its clearing. Assumes nothing.
use mathlib.Core.Path.{◌∙◌}
use Rattle.laws.specs.AreaLaws.{cleared-same}
use Rattle.delta.proofs.read_from_ints.Goals as goal

pub returns : goal.returns
returns c =
    let p = c.judge_ints-read in
    (p.ensures, c.clear.ensures ∙ cleared-same p.new.scratch c.args.scratch.now p.auto.scratch)
