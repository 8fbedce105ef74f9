-- `checked::stay` meets its contract. Assumes nothing.
use Rattle.storage.proofs.Deltas.{stays}
use native.Mathlib.Omega.{arith}
use Rattle.storage.proofs.checked.stay.Goals as goal

pub returns : goal.returns
returns c =
    let e = c.min.ensures in
    (omega (arith, e), omega (arith, e), λ l m. stays l c.args.count c.min.result e m)
