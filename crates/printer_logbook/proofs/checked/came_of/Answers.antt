-- `checked::came_of` meets its contract. Assumes nothing.
use mathlib.Core.Path.{sym, ◌∙◌}
use native.Mathlib.Omega.{arith}
use Rattle.std.proofs.Common.{SFits, w32, rules}
use Rattle.ints.specs.Same.{equal-same}
use Rattle.printer_logbook.specs.States.{parts_in}
use Rattle.printer_logbook.proofs.Notes.{came-other}
use Rattle.printer_logbook.proofs.checked.came_of.Goals as goal

pub returns-else-eq : goal.returns-else-eq
returns-else-eq c =
    let f : SFits w32 c.args.tick.0 = search rules in
    let g : SFits w32 c.in-Some.newest.0 = search rules in
    let e = c.eq.ensures ∙ equal-same f g in
    ((λ came. came-other c.in-Some.newest (parts_in c.args.g.parts came) _ c.in-Some.is (sym e ∙ c.if-eq.false)), omega arith)
