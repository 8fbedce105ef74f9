use mathlib.Core.Path.{◌≡◌, subst}
use mathlib.Core.List.{List}
use Prim.Native.Nat.{ℕ, ◌*◌, ◌<◌}
use native.Mathlib.Omega.{arith}
use lib.ListN.{take}
use Rattle.definitions.specs.Receiver.{joined}
use Rattle.receiver.proofs.Parts.{none-full, one-full}
use Rattle.receiver.proofs.checked.full_parts.Goals as goal

pub loop-i-init : goal.loop-i-init
loop-i-init c = none-full c.args.lengths.now

pub loop-i-preserved : goal.loop-i-preserved
loop-i-preserved c =
    let k = c.loop-i in
    let h : k.i < 32 = omega (arith, c.requires) in
    one-full c.args.lengths.now c.requires k.i h c.if-len-ne-PART_SIZE.false k.invariant

pub returns : goal.returns
returns c =
    let k = c.loop-i in
    let l = c.args.lengths.now in
    let e : k.i ≡ 32 = omega (arith, c.requires) in
    (omega arith, subst (λ (i : ℕ). (area : List ℕ) → joined l area i ≡ take (900 * i) area) e k.invariant)
