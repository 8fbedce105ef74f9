-- `checked::merge_part` meets its contract. The loop's invariant: what is left to be merged is left to be written. Assumes nothing.
use Prim.Native.Nat.{◌+◌, ◌-◌}
use lib.ListN.{length}
use Rattle.laws.specs.ApplyWriting.{Writing}
use Rattle.applying.specs.Merging.{rest_of, Going}
use Rattle.applying.proofs.checked.merge_part.Given as goal

abbrev pub invariant-loop-s : goal.invariant-loop-s
invariant-loop-s l =
    Going l.base l.nb l.to l.delta l.deleted l.n (length l.out) l.s × Writing l.n l.initial.out l.initial.s.items l.initial.s.at (rest_of l.base l.to l.delta l.deleted l.initial.s) l.out l.s.items l.s.at (rest_of l.base l.to l.delta l.deleted l.s)

abbrev pub decreases-loop-s : goal.decreases-loop-s
decreases-loop-s l = (l.to - l.s.item) + l.s.left
