-- `Picked::lower` meets its contract: the keys below the sought one come first. Assumes nothing.
use Rattle.std.proofs.Common.{rules}
use Rattle.types.proofs.Places.{falls, lowered}
use Rattle.types.proofs.checked.picked.Picked.lower.Goals as goal

pub returns : goal.returns
returns c =
    let p = c.args.self.picks in
    let f = c.first_not.ensures in
    lowered _ _ _ p _ _ f.within (f.parted _ (record { told = λ i b l w. search rules }) (falls _ _ _ p c.args.k))
