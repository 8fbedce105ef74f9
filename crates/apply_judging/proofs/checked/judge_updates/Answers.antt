use Prim.Native.Nat.{◌+◌, ◌-◌}
use mathlib.Core.Path.{◌≡◌}
use native.Mathlib.Omega.{arith}
use Rattle.std.proofs.lemmas.Result.{err_from_is_err_and}
use Rattle.apply_judging.proofs.Turns.{update-refused, update-fine, all-judged}
use Rattle.apply_judging.proofs.checked.judge_updates.Goals as goal
use Rattle.apply_judging.proofs.checked.judge_updates.Goals.{After-update_key-key}

pub returns-in_err-so_far : goal.returns-in_err-so_far
returns-in_err-so_far c =
    let p = err_from_is_err_and c.from_residual.result c.from_residual.ensures.1 in
    rw (p.1, p.2)
    (update-refused c.loop.invariant.2 (omega arith) _ c.in_err-so_far.ensures.0, tt)

pub loop-preserved : goal.loop-preserved
loop-preserved c =
    let e : c.args.updated - (c.loop.counter + 1) ≡ c.args.updated - c.loop.counter - 1 = omega arith in
    (omega (arith, c.place_near-b.ensures.within, c.requires.0.count-is), c.deleted_near-g.ensures.few, rw e (update-fine c.loop.invariant.2 (omega arith) _ _ _ c.in_ok-so_far.ensures.0 c.in_ok-so_far.ensures.1 c.next_update-p.ensures))

pub returns : goal.returns
returns c =
    let s = c.loop.invariant.2 in
    (all-judged s (omega arith), (s.few, s.short))
