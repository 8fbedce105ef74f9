use mathlib.Core.Path.{◌≡◌}
use Prim.Native.Nat.{◌+◌, ◌*◌, ◌≤◌, ◌-◌}
use native.Mathlib.Omega.{arith}
use lib.ListN.{length}
use Rattle.delta_reading.proofs.Turns.{counted-under, one-measured, all-measured, sized-short}
use Rattle.delta_reading.proofs.checked.updates_len.Goals as goal
use Rattle.delta_reading.proofs.checked.updates_len.Goals.{After-size_at}

-- the whole is no longer than twice the ints
inside : (c : After-size_at) → c.loop.total + (3 + c.size_at.result) ≤ 2 * length c.args.src.now
inside c =
    let s = c.args in
    omega (
      arith,
      counted-under s.sizes.now s.src.now c.loop.invariant (omega arith),
      c.size_at.ensures.0,
      sized-short s.sizes.now s.src.now s.start s.n c.requires.0 c.requires.1,
    )

pub overflow_add-total-in-loop : goal.overflow_add-total-in-loop
overflow_add-total-in-loop c = omega (arith, inside c)

pub loop-preserved : goal.loop-preserved
loop-preserved c =
    let step : c.args.n - (c.loop.counter + 1) ≡ c.args.n - c.loop.counter - 1 = omega arith in
    rw step
    (one-measured _ _ c.loop.invariant _ _ (omega arith) c.update_end-p.ensures c.size_at.ensures.0)

pub returns : goal.returns
returns c = all-measured _ _ c.loop.invariant (omega arith)
