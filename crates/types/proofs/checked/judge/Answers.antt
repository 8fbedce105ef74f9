-- `checked::judge` meets its contract: the walk has the items of types from 8000 hex up, those of type 0, and the rest. Assumes nothing.
use mathlib.Core.Bool.{false≢true}
use mathlib.Core.Path.{sym, ◌∙◌}
use Rattle.types.proofs.Judging.{z-low, first-missing, then-missing, then-same}
use Rattle.types.proofs.checked.judge.Goals as goal
use Rattle.types.proofs.checked.judge.Goals.{else-is_ok-via-then-is_ok+else-any_lacks-2, else-is_ok-via-else-is_ok}

pub returns-then-any_lacks : goal.returns-then-any_lacks
returns-then-any_lacks c =
    let a = c.args in
    first-missing a.picked.src.now a.picked.n a.picked.index.now _ _ c.lower-high.ensures c.lower-z.ensures (sym c.any_lacks.ensures ∙ c.if-any_lacks.true)

pub any_lacks-requires-then-is_ok : goal.any_lacks-requires-then-is_ok
any_lacks-requires-then-is_ok c =
    let a = c.args in
    (z-low a.picked.src.now a.picked.n a.picked.index.now _ _ c.lower-high.ensures c.lower-z.ensures, c.lower-high.ensures.within)

pub returns-then-any_lacks-2 : goal.returns-then-any_lacks-2
returns-then-any_lacks-2 c =
    let a = c.args in
    then-missing a.picked.src.now a.picked.n a.picked.index.now _ _ c.lower-high.ensures c.lower-z.ensures (sym c.any_lacks.ensures ∙ c.if-any_lacks.false) c.judge_kinds-kinds.result.types c.judge_kinds-kinds.result.excess
    (sym c.is_ok.ensures.value ∙ c.if-is_ok.true) c.judge_kinds-kinds.ensures (sym c.any_lacks-then-is_ok.ensures ∙ c.if-any_lacks-2.true)

pub returns : goal.returns
returns c =
    let a = c.args in
    then-same a.picked.src.now a.picked.n a.picked.index.now _ _ c.lower-high.ensures c.lower-z.ensures (sym c.any_lacks.ensures ∙ c.if-any_lacks.false) c.judge_kinds-kinds.result.types c.judge_kinds-kinds.result.excess c.judge_kinds-kinds.ensures
    (λ o. elim c.else-is_ok.branch [
      | else-is_ok-via-then-is_ok+else-any_lacks-2 w ↦ sym w.any_lacks-then-is_ok.ensures ∙ w.if-any_lacks-2.false
      | else-is_ok-via-else-is_ok w ↦ absurd (false≢true (sym w.if-is_ok.false ∙ c.is_ok.ensures.value ∙ o))
    ])
