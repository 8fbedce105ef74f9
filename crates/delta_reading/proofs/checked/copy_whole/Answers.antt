-- `checked::copy_whole` meets its contract: by the copy. Assumes nothing.
use mathlib.Core.Path.{ap, ◌∙◌}
use lib.ListN.{length}
use Rattle.ints.specs.Copies.{stored_by, copy_stored}
use Rattle.delta_reading.proofs.checked.copy_whole.Goals as goal

pub returns-then-copy_into : goal.returns-then-copy_into
returns-then-copy_into c =
    let s = c.args in
    let e = rw c.if-copy_into.true at c.copy_into.ensures in
    copy_stored s.out.now s.src.now ∙ ap (stored_by (length s.src.now)) e

pub returns : goal.returns
returns c =
    let s = c.args in
    let e = rw c.if-copy_into.false at c.copy_into.ensures in
    copy_stored s.out.now s.src.now ∙ ap (stored_by (length s.src.now)) e
