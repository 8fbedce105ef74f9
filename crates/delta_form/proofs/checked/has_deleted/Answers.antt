-- `checked::has_deleted` meets its contract: by whether there is such a key. Assumes nothing.
use mathlib.Core.Path.{refl}
use Rattle.definitions.specs.Ints.{bits}
use Rattle.definitions.specs.Deltas.{deleted_at}
use Rattle.delta_form.proofs.Ranks.{deleted-tested}
use Rattle.delta_form.proofs.checked.has_deleted.Goals as goal

pub returns-then-i-deleted : goal.returns-then-i-deleted
unfolding deleted_at bits
returns-then-i-deleted c =
    let s = c.args in
    deleted-tested s.src.now s.deleted s.i (bits s.key) _ c.if-i-deleted.true refl
