-- `table_text::put_refusal` meets its contract. Assumes nothing.
use mathlib.Core.List.{[], ◌∷◌}
use Rattle.format.specs.Numbers.{number}
use Rattle.replay_text.specs.Answers.{refused}
use Rattle.table_text.proofs.Texts.{both-put}
use Rattle.table_text.proofs.put_refusal.Goals as goal

pub returns : goal.returns
returns c =
    both-put (refused (number c.args.e)) (10 ∷ []) _ c.put_refused-end.ensures c.put_byte.ensures.out_value
