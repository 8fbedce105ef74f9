-- `checked::apply_delta` meets its contract: by the judgement of the areas. Assumes nothing.
use mathlib.Core.Path.{◌∙◌}
use Rattle.raw_snap.specs.Applied.{refused-leaves}
use Rattle.table_reading.specs.Counted.{answered}
use Rattle.raw_snap.proofs.checked.apply_delta.Goals as goal

pub returns-in-Err : goal.returns-in-Err
returns-in-Err c = refused-leaves _ _ _ c.in-Err.ensures ∙ answered _ c.refused.ensures
