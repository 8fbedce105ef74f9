-- `checked::message` meets its contract: scratch is cleared. Assumes nothing.
use Rattle.laws.specs.AreaLaws.{cleared-same}
use mathlib.Core.Path.{◌∙◌}
use Rattle.manager.proofs.checked.message.Goals as goal

pub returns : goal.returns
returns c =
    (c.judge-handling.ensures, c.clear.ensures ∙ cleared-same c.judge-handling.new.scratch c.args.scratch.now c.judge-handling.auto.scratch)
