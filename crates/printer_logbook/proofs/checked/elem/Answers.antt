-- `checked::elem` meets its contract. Assumes nothing.
use mathlib.Core.Path.{◌∙◌}
use Rattle.printer_logbook.proofs.Lists.{elem-first}
use Rattle.printer_logbook.proofs.checked.elem.Goals as goal

pub returns : goal.returns
returns c = c.contains.ensures.value ∙ elem-first c.args.part c.args.n c.args.came.now c.requires
