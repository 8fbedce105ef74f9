-- `checked::start_at` meets its contract, for an item and for the end. Assumes nothing.
use Prim.Native.Nat.{ℕ, ◌+◌, ◌/◌}
use mathlib.Core.Path.{◌≡◌, ap, ap₂, ◌∙◌}
use native.Mathlib.Omega.{arith}
use Rattle.definitions.specs.Tables.{edge, start}
use Rattle.table.proofs.OffsetLaws.{held-end}
use Rattle.table.proofs.checked.start_at.Goals as goal

pub returns-then-i-n : goal.returns-then-i-n
returns-then-i-n c = c.key_place.ensures

pub returns : goal.returns
unfolding start
returns c =
    let s = c.before.before in
    let a = s.args.area.now in
    let e : s.args.n ≡ s.args.i = omega (arith, c.if-i-n.false, s.requires.1) in
    ap₂ (λ (n x : ℕ). 2 + n + x / 4) s.requires.0.count-is (c.bits_at.ensures.0 ∙ held-end a s.args.n s.requires.0 ∙ ap (edge a) e)
