-- `checked::judge_updates` meets its contract. The loop's invariant: judging the updates left, for the table so far, gives the whole. Assumes nothing.
use Prim.Native.Nat.{◌+◌, ◌-◌, ◌≤◌}
use mathlib.Core.List.{[]}
use Rattle.definitions.specs.Tables as Tables
use Rattle.definitions.specs.Deltas.{updates}
use Rattle.laws.specs.ApplyJudging.{judge_updates}
use Rattle.apply_judging.specs.Judging.{deleted_of}
use Rattle.apply_judging.proofs.Turns.{Judging}
use Rattle.apply_judging.proofs.checked.judge_updates.Given as goal

abbrev pub invariant-loop : goal.invariant-loop
invariant-loop l =
    (l.b ≤ l.nb) × (l.g ≤ l.deleted) × Judging (deleted_of l.delta l.deleted) (Tables.items l.base) l.delta (judge_updates (deleted_of l.delta l.deleted) (Tables.items l.base) (updates [] l.delta (3 + l.deleted) l.updated) l.items l.ints) l.p (l.updated - l.counter) l.so_far.items l.so_far.ints
