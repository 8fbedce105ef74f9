-- `checked::late` meets its contract. Assumes nothing.
use mathlib.Core.Path.{◌≡◌, sym, ◌∙◌}
use Rattle.std.proofs.Common.{SFits, w32, rules}
use Rattle.definitions.specs.Ints.{signed_less}
use Rattle.definitions.specs.Receiver.{same}
use Rattle.printer_logbook.proofs.Lists.{less-is}
use Rattle.ints.specs.Same.{equal-same}
use Rattle.printer_logbook.proofs.Notes.{late-after}
use Rattle.printer_logbook.proofs.checked.late.Goals as goal

pub returns-else-eq : goal.returns-else-eq
returns-else-eq c =
    let f : SFits w32 c.args.tick.0 = search rules in
    let g : SFits w32 c.in-Some.newest.0 = search rules in
    let e : c.eq.result ≡ same c.args.tick.0 c.in-Some.newest.0 = c.eq.ensures ∙ equal-same f g in
    let l : c.lt.result ≡ signed_less c.args.tick.0 c.in-Some.newest.0 = c.lt.ensures ∙ less-is c.args.tick.0 c.in-Some.newest.0 in
    late-after c.in-Some.newest _ _ _ c.in-Some.is (rw (c.if-eq.false, sym l ∙ c.if-lt.false, sym e ∙ c.if-eq.false))
