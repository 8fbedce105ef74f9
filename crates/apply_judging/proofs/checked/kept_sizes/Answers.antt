-- `checked::kept_sizes` meets its contract. Assumes nothing.
use Rattle.apply_judging.proofs.Turns.{keeps-all}
use Rattle.apply_judging.proofs.checked.kept_sizes.Goals as goal

pub returns-then-deleted-eq0 : goal.returns-then-deleted-eq0
returns-then-deleted-eq0 c =
    keeps-all c.args.base.now c.args.nb c.requires.0 c.args.delta.now c.args.deleted c.nat_at.result c.if-deleted-eq0.true c.nat_at.ensures.0
