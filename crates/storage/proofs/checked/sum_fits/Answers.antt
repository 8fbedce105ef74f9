-- `checked::sum_fits` meets its contract: by whether a sum was sent. Assumes nothing.
use lib.Dec.{eqb}
use lib.IntN.{ℤ}
use mathlib.Core.Path.{ap}
use mir.Val.{of_z}
use Rattle.std.proofs.Common.{w32}
use Rattle.definitions.specs.Ints.{bits}
use Rattle.definitions.specs.Tables.{items}
use Rattle.storage.proofs.Deltas.{sum-sent}
use Rattle.storage.proofs.checked.sum_fits.Goals as goal

pub returns : goal.returns
unfolding bits
returns c =
    let x = c.args in
    sum-sent x.m (items x.table.now) _ c.in-Some.crc c.in-Some.is (ap (λ (z : ℤ). eqb (of_z w32 c.in-Some.crc) (of_z w32 z)) c.crc.ensures)
