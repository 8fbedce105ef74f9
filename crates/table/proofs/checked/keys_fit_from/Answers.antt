use Rattle.std.proofs.Common.{◌+◌, sym, ◌∙◌, arith}
use Rattle.table.proofs.KeyLaws.{rising, none-fits, not-all}
use Rattle.table.proofs.checked.keys_fit_from.Goals as goal

pub returns-then-last-eq4294967296 : goal.returns-then-last-eq4294967296
returns-then-last-eq4294967296 c =
    let a = c.args.area.now in
    let i = c.loop-i.i in
    sym (not-all a (i + 1) c.args.n (omega arith) (none-fits a (i + 1) (omega arith) (sym c.if-last-eq4294967296.true ∙ c.after_item-last.ensures)))

pub loop-i-preserved : goal.loop-i-preserved
loop-i-preserved c =
    rising c.args.area.now c.args.n c.args.size c.loop-i.i c.loop-i.last c.loop-i.invariant _ _ (omega arith) c.after_item-last.ensures c.if-last-eq4294967296.false
