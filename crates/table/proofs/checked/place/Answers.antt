-- `checked::place` meets its contract: the keys below the sought one come first. Assumes nothing.
use Rattle.std.proofs.Common.{w32, to_z-of_z, rules}
use Rattle.definitions.specs.Ints.{bits}
use Rattle.table.proofs.Places.{falls, placed}
use Rattle.table.proofs.checked.place.Goals as goal

pub returns : goal.returns
unfolding bits
returns c =
    let f = c.first_not.ensures in
    placed _ _ c.requires _ _ f.within
    (f.parted _ (record { told = λ i b l w. search (rules, to_z-of_z {w = w32}, c.ranges.key) }) (falls _ _ c.requires (bits c.args.key)))
