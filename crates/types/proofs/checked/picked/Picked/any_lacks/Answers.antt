use mathlib.Core.Path.{sym, ◌∙◌}
use Rattle.types.proofs.Lacking.{first-lacks, none-lacks}
use Rattle.types.proofs.checked.picked.Picked.any_lacks.Goals as goal

pub returns-then-lacks_kind : goal.returns-then-lacks_kind
returns-then-lacks_kind c =
    let l = c.loop-j in
    sym (sym l.invariant ∙ first-lacks _ _ l.j _ c.loop-j-test.true ∙ rw (sym c.lacks_kind.ensures ∙ c.if-lacks_kind.true))

pub loop-j-preserved : goal.loop-j-preserved
loop-j-preserved c =
    let l = c.loop-j in
    sym (first-lacks _ _ l.j _ c.loop-j-test.true ∙ rw (sym c.lacks_kind.ensures ∙ c.if-lacks_kind.false)) ∙ l.invariant

pub returns : goal.returns
returns c =
    let l = c.loop-j in
    sym (sym l.invariant ∙ none-lacks _ _ l.j _ c.loop-j-test.false)
