-- `checked::key_place` meets its contract: the offset as an int's bits. Assumes nothing.
use Prim.Native.Nat.{ℕ, ◌+◌, ◌/◌}
use mathlib.Core.Path.{ap₂, ◌∙◌}
use Rattle.definitions.specs.Tables.{start}
use Rattle.table.proofs.OffsetLaws.{held-offset}
use Rattle.table.proofs.checked.key_place.Goals as goal

pub returns : goal.returns
unfolding start
returns c =
    let s = c.before in
    ap₂ (λ (n x : ℕ). 2 + n + x / 4) s.requires.0.count-is (c.bits_at.ensures.0 ∙ held-offset s.args.area.now s.args.n s.requires.0 s.args.i s.requires.1)
