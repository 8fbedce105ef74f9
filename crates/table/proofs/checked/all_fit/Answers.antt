-- `checked::all_fit` meets its contract. Assumes nothing.
use Rattle.std.proofs.Common.{sym, ◌∙◌}
use Rattle.table.proofs.OffsetLaws.{no-ends}
use Rattle.table.proofs.checked.all_fit.Goals as goal

pub returns-else-ends_fit : goal.returns-else-ends_fit
returns-else-ends_fit c =
    c.if-ends_fit.false ∙ sym (no-ends c.args.area.now c.args.n c.args.size c.requires (sym c.ends_fit.ensures ∙ c.if-ends_fit.false))
