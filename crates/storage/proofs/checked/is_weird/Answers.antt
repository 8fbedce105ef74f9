-- `checked::is_weird` meets its contract. Assumes nothing.
use lib.IntN.{negsuc}
use mathlib.Core.Bool.{not}
use mathlib.Core.Path.{◌≡◌, sym, ap, ◌∙◌}
use Rattle.std.proofs.Common.{SFits, w32, rules}
use Rattle.definitions.specs.Receiver.{same}
use Rattle.ints.specs.Same.{equal-same}
use Rattle.storage.proofs.checked.is_weird.Goals as goal

pub returns-then-is_negative : goal.returns-then-is_negative
returns-then-is_negative c =
    let f : SFits w32 c.args.tick.0 = search rules in
    let g : SFits w32 (negsuc 0) = search rules in
    let e : c.ne.result ≡ not (same c.args.tick.0 (negsuc 0)) = c.ne.ensures ∙ ap not (equal-same f g) in
    rw (sym c.is_negative.ensures ∙ c.if-is_negative.true) e
