-- `checked::is_oldest` meets its contract: by the tick of the last table. Assumes nothing.
use mathlib.Core.Path.{◌≡◌, ◌∙◌}
use borrow.Author.Tests.{eq-eqb}
use Rattle.std.proofs.Common.{SFits, w32, rules}
use Rattle.definitions.specs.Receiver.{same}
use Rattle.ints.specs.Same.{equal-same}
use Rattle.storage.proofs.Forms.{no-oldest, oldest-of}
use Rattle.store_area.specs.Held.{snaps_in}
use Rattle.storage.proofs.checked.is_oldest.Goals as goal

pub returns-then-count-ne0 : goal.returns-then-count-ne0
returns-then-count-ne0 c =
    let a = c.args in
    let f : SFits w32 c.tick_at.result.0 = search rules in
    let g : SFits w32 a.tick.0 = search rules in
    let e : c.eq.result ≡ same c.tick_at.result.0 a.tick.0 = c.eq.ensures ∙ equal-same f g in
    (rw c.tick_at.ensures at e) ∙ oldest-of a.tick.0 (snaps_in a.count a.area.now) a.count c.requires.many c.if-count-ne0.true

pub returns-else-count-ne0 : goal.returns-else-count-ne0
returns-else-count-ne0 c =
    let a = c.args in
    rw (eq-eqb a.count 0 c.if-count-ne0.false) (no-oldest a.tick.0 (snaps_in a.count a.area.now) a.count c.requires.many c.if-count-ne0.false)
