-- `packer::checked::scan` meets its contract. The loop's invariant: what is counted and laid so far, and what is left, make the whole. Assumes nothing.
use Prim.Native.Nat.{◌-◌}
use lib.ListN.{length}
use Rattle.packer.proofs.Scanning.{Scanning}
use Rattle.packer.proofs.checked.scan.Given as goal

abbrev pub invariant-loop-at : goal.invariant-loop-at
invariant-loop-at l = Scanning l.src l.initial.out l.out l.at l.t

abbrev pub decreases-loop-at : goal.decreases-loop-at
decreases-loop-at l = length l.src - l.at
