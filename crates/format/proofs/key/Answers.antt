-- `format::key` meets its contract: type and id have 16 bits each. Assumes nothing.
use native.Mathlib.Omega.{arith}
use mir.Facts.{to_z-of_z}
use Rattle.laws.specs.IntLaws.{bits-from_bits}
use Rattle.std.proofs.Common.{w32}
use Rattle.format.proofs.key.Goals as goal

pub returns : goal.returns
returns c =
    rw (to_z-of_z {w = w32} (record { sfits = c.from_bits.type_inv }), c.from_bits.ensures)
    (bits-from_bits (omega (arith, c.ranges.raw_type_id.fits, c.ranges.id.fits)))
