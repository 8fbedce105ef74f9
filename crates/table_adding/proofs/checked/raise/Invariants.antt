-- `checked::raise` meets its contract. The loop's invariant: the counts so far are raised. Assumes nothing.
use Rattle.std.proofs.Common.{◌≡◌, map, ◌++◌, take, drop}
use Rattle.table_adding.specs.Adding.{raised}
use Rattle.table_adding.proofs.checked.raise.Given as goal

abbrev pub invariant-loop-count : goal.invariant-loop-count
invariant-loop-count l = l.part ≡ map (raised l.by) (take l.count-index l.initial.part) ++ drop l.count-index l.initial.part
