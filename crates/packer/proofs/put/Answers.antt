-- `packer::put` meets its contract: by whether the area goes that far. Assumes nothing.
use mathlib.Core.Path.{sym, ◌∙◌}
use mathlib.Core.List.{[], ◌∷◌}
use Prim.Native.Nat.{◌+◌}
use lib.ListN.{set}
use mir.Facts.{to_z-of_z}
use Rattle.laws.specs.AreaLaws.{lay_at-set, lay_at-nothing, lay_at-past}
use Rattle.std.proofs.Common.{w32}
use Rattle.packer.proofs.put.Goals as goal

pub returns-then-at-out : goal.returns-then-at-out
returns-then-at-out c =
    let a = c.args in
    rw (to_z-of_z {w = w32} c.ranges.x)
    (sym (lay_at-nothing (a.at + 1) (set a.out.now a.at a.x)) ∙ sym (lay_at-set a.at a.x [] a.out.now c.if-at-out.true))

pub returns-else-at-out : goal.returns-else-at-out
returns-else-at-out c =
    let a = c.args in
    sym (lay_at-past a.at (a.x ∷ []) a.out.now c.if-at-out.false)
