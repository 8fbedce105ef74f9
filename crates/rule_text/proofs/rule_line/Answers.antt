-- `rule_text::rule_line` meets its contract, by the result of reading the bytes. Assumes nothing.
use mathlib.Core.Path.{ap, ◌∙◌}
use mir.Facts.{to_z-of_z}
use Rattle.table_text.proofs.Texts.{told}
use Rattle.rule_text.specs.RuleLine.{won_text}
use Rattle.rule_text.proofs.Lines.{read-line, area-line}
use Rattle.std.proofs.Common.{w32}
use Rattle.rule_text.proofs.rule_line.Goals as goal

pub returns-in-Ok : goal.returns-in-Ok
returns-in-Ok c =
    let asked = rw (to_z-of_z {w = w32} c.ranges.ingredient) at c.winner.ensures in
    let it = told _ _ (area-line _ _ _ _ c.in-Ok.ensures ∙ ap won_text asked) c.put_won.ensures in
    record { out_value = it.0; prefix_len = it.1 }

pub returns-in-Err : goal.returns-in-Err
returns-in-Err c =
    let it = told _ _ (read-line _ _ _ c.in-Err.ensures) c.put_refusal.ensures in
    record { out_value = it.0; prefix_len = it.1 }
