use native.Mathlib.Omega.{arith}
use mathlib.Core.Path.{◌≡◌, sym, subst}
use Prim.Native.Nat.{ℕ, ◌+◌, ◌-◌}
use lib.ListN.{set}
use Rattle.sorting.specs.Pairs.{pair_at}
use Rattle.types.specs.Kinds.{Leader, Leaders}
use Rattle.types.proofs.Leading.{one_more}
use Rattle.types.proofs.checked.take_leaders.Goals as goal

pub loop-i-preserved : goal.loop-i-preserved
loop-i-preserved c =
    let p = c.requires in
    let l = c.loop-i in
    let e : l.i + 1 - 1 ≡ l.i = omega arith in
    let r = c.leader-least.ensures in
    record {
      led = subst (λ (x : ℕ). Leaders (pair_at c.args.list.now) c.args.m (l.i + 1) (set l.classes x c.leader-least.result)) (sym c.place_at.ensures) (one_more _ _ p.3 l.classes l.i c.leader-least.result c.loop-i-test.true (omega (arith, p.1, p.3.within l.i c.loop-i-test.true)) r l.invariant.led);
      last = λ h. subst (λ (x : ℕ). Leader (pair_at c.args.list.now) c.args.m x c.leader-least.result) (sym e) r;
    }
