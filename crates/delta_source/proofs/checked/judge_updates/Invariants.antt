-- `checked::judge_updates` meets its contract. The loop's invariant: those walked so far, followed by what is left, are the whole. Assumes nothing.
use Prim.Native.Nat.{◌-◌}
use Rattle.delta_source.specs.Source.{source, size}
use Rattle.delta_source.proofs.Judging.{Judging}
use Rattle.delta_source.proofs.checked.judge_updates.Given as goal

abbrev pub invariant-loop-refusal : goal.invariant-loop-refusal
invariant-loop-refusal l = Judging (source l.packed l.bytes l.ints) l.sizes l.at l.here l.t

abbrev pub decreases-loop-refusal : goal.decreases-loop-refusal
decreases-loop-refusal l = size (source l.packed l.bytes l.ints) - l.here
