use Prim.Native.Nat.{◌+◌, ◌-◌}
use native.Mathlib.Omega.{arith}
use Rattle.delta_any_order.proofs.Ends.{laid_none, laid-room, laid-turn}
use Rattle.delta_any_order.proofs.checked.updates_end.Goals as goal

pub returns-then-area-size_place : goal.returns-then-area-size_place
returns-then-area-size_place c = λ end h. absurd (let r = laid-room (c.loop.invariant.0 end h) (omega arith) in omega arith)

pub loop-preserved : goal.loop-preserved
loop-preserved c =
    ((λ end h. rw c.nat_at.ensures.0 (laid-turn (c.args.n - (c.loop.counter + 1)) (omega arith) (c.loop.invariant.0 end h))), omega arith)

pub returns : goal.returns
returns c = λ end h. laid_none (c.loop.invariant.0 end h) (omega arith)
