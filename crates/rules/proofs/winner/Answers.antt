-- `rules::winner` meets its contract: by the form of the area. Assumes nothing.
use mathlib.Core.Path.{◌∙◌}
use mir.Facts.{to_z-of_z}
use Rattle.definitions.specs.Rules.{winner_for}
use Rattle.laws.specs.OutcomeLaws.{return-bind}
use Rattle.table.specs.Forms.{formed}
use Rattle.table.specs.Writing.{not-held, is_held}
use Rattle.std.proofs.Common.{w32}
use Rattle.rules.proofs.winner.Goals as goal

pub returns-in_default : goal.returns-in_default
returns-in_default c = rw (not-held _ c.in_default.ensures)

pub search-requires : goal.search-requires
search-requires c = (formed _ _ _ c.in-Some.ensures).0

pub returns : goal.returns
returns c =
    rw (is_held _ c.in-Some.ensures)
    (return-bind _ (winner_for c.args.types.now c.args.ingredient) ∙ (rw (to_z-of_z {w = w32} c.ranges.ingredient) at c.search.ensures))
