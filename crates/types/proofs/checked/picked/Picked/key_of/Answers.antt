-- `Picked::key_of` meets its contract: the int where the item begins. Assumes nothing.
use native.Mathlib.Omega.{arith}
use mathlib.Core.Path.{◌∙◌}
use Rattle.definitions.specs.Tables.{key_at}
use Rattle.types.proofs.Places.{placed}
use Rattle.types.proofs.checked.picked.Picked.key_of.Goals as goal

pub bits_at-requires : goal.bits_at-requires
bits_at-requires c =
    let p = placed _ _ _ c.args.self.picks _ c.requires in
    omega (arith, p.begins, p.rises, p.inside, c.edge.ensures.0)

pub returns : goal.returns
unfolding key_at
returns c =
    let p = placed _ _ _ c.args.self.picks _ c.requires in
    (c.bits_at.ensures.0 ∙ rw (c.edge.ensures.0, p.begins), c.bits_at.ensures.1)
