-- `read_full` ends, since each turn leaves less to fill. Assumes nothing.
use Rattle.std.proofs.Common.{length, ◌-◌, ◌≡◌, ◌<◌, ◌≤◌, ◌^◌}
use Rattle.replay_text.proofs.input.read_full.Given as goal

abbrev pub invariant-loop-len : goal.invariant-loop-len
invariant-loop-len g l = (length l.area ≡ length l.initial.area) × (l.len ≤ length l.area) × (length l.area < 2 ^ 64)

abbrev pub decreases-loop-len : goal.decreases-loop-len
decreases-loop-len g l = length l.area - l.len
