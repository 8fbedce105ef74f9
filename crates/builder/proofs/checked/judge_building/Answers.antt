-- `checked::judge_building` meets its contract: by the form, the kinds, and the types. Assumes nothing.
use mathlib.Core.Path.{sym, ◌∙◌}
use Rattle.table.specs.Forms.{formed}
use Rattle.builder.proofs.Counting.{not-in-form, kinds-apart, types-refused, builds}
use Rattle.builder.proofs.checked.judge_building.Goals as goal

pub returns-in_err-form : goal.returns-in_err-form
returns-in_err-form c = rw c.from_residual.ensures (not-in-form _ c.in_err-form.ensures)

pub count_kinds-requires : goal.count_kinds-requires
count_kinds-requires c = (formed _ _ _ c.in_ok-form.ensures).0

pub returns-in_err-kinds : goal.returns-in_err-kinds
returns-in_err-kinds c =
    rw c.from_residual-in_err-kinds.ensures (kinds-apart _ _ (formed _ _ _ c.in_ok-form.ensures).0 c.in_err-kinds.ensures)

pub judge_form-requires : goal.judge_form-requires
judge_form-requires c = formed _ _ _ c.in_ok-form.ensures

pub returns-then-is_err : goal.returns-then-is_err
returns-then-is_err c =
    types-refused _ _ (formed _ _ _ c.in_ok-form.ensures).0 c.in_ok-kinds.kinds c.in_ok-kinds.ensures c.judge_form.result.types _
    (sym c.is_err.ensures.value ∙ c.if-is_err.true) c.judge_form.ensures

pub returns : goal.returns
returns c =
    let h = formed _ _ _ c.in_ok-form.ensures in
    builds _ _ h.0 c.in_ok-kinds.kinds c.in_ok-kinds.ensures _ c.judge_form.result.types _ h.1 (sym c.is_err.ensures.value ∙ c.if-is_err.false) c.judge_form.ensures
