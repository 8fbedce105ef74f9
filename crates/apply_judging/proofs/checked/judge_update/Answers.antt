-- `checked::judge_update` meets its contract: by whether the base keeps the key. Assumes nothing.
use mathlib.Core.Path.{sym, ◌∙◌}
use mathlib.Core.List.{[]}
use Rattle.laws.specs.DeltaRestores.{length-values}
use Rattle.apply_judging.proofs.Judgements.{update-kept, update-new}
use Rattle.apply_judging.proofs.checked.judge_update.Goals as goal

pub returns-then-is_kept : goal.returns-then-is_kept
returns-then-is_kept c =
    (update-kept _ _ _ _ _ _ c.is_as_long-same.ensures _ (sym c.is_kept.ensures ∙ c.if-is_kept.true) c.judge_length.ensures.0, c.judge_length.ensures.1)

pub returns : goal.returns
returns c =
    (update-new _ _ _ _ _ _ c.is_as_long-same.ensures _ _ (sym c.is_kept.ensures ∙ c.if-is_kept.false) (c.update_size.ensures.0 ∙ sym (length-values [] _ _ c.requires.2)) c.judge_new.ensures.0, c.judge_new.ensures.1)
