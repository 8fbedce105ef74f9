-- `delta_index::checked::is_last` meets its contract, by the key of the next pair. Assumes nothing.
use Prim.Native.Nat.{◌+◌}
use native.Mathlib.Omega.{arith}
use Rattle.sorting.specs.Pairs.{key, pair_at}
use Rattle.delta_index.proofs.Telling.{last_end, last_inner}
use Rattle.delta_index.proofs.checked.is_last.Goals as goal

pub returns-then-n-j : goal.returns-then-n-j
returns-then-n-j c =
    let a = c.args in
    last_end (pair_at a.index.now) a.n (key (pair_at a.index.now a.i)) (a.i + 1) (omega arith)

pub returns : goal.returns
returns c =
    let a = c.args in
    rw (last_inner (pair_at a.index.now) a.n (key (pair_at a.index.now a.i)) (a.i + 1) (omega arith), c.key_at.ensures.0, c.key_at-2.ensures.0)
