-- `delta::read` meets its contract: what scratch held does not matter to its clearing. Assumes nothing.
use mathlib.Core.Path.{◌∙◌}
use Rattle.laws.specs.AreaLaws.{cleared-same}
use Rattle.delta.proofs.read.Goals as goal

pub returns : goal.returns
returns c =
    let p = c.judge_packed-read in
    (p.ensures, c.clear.ensures ∙ cleared-same p.new.scratch c.args.scratch.now p.auto.scratch)
