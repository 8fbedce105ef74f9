use native.Mathlib.Omega.{arith}
use mathlib.Core.Path.{◌≡◌, subst}
use Prim.Native.Nat.{ℕ, ◌+◌}
use Rattle.types.specs.Kinds.{halves, Firsts}
use Rattle.types.proofs.Classes.{settled}
use Rattle.types.proofs.checked.classify.Goals as goal

pub returns-then-all_first : goal.returns-then-all_first
returns-then-all_first c =
    let a = c.args in
    let l = c.loop-i in
    settled (halves a.picked.src.now a.picked.index.now) (l.i + 1) a.m c.refine.new.classes c.refine.ensures 8 (omega (arith, c.loop-i.auto.i-end, c.loop-i-test.true)) (c.all_first.ensures c.if-all_first.true)

pub returns : goal.returns
returns c =
    let l = c.loop-i in
    let e : l.i ≡ 8 = omega (arith, c.loop-i.auto.i-end) in
    subst (λ (k : ℕ). Firsts (halves c.args.picked.src.now c.args.picked.index.now) k c.args.m l.classes) e l.invariant
