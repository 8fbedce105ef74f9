-- `packer::checked::signed_value` meets its contract: by the sign. Assumes nothing.
use mir.Facts.{to_z-of_z}
use Rattle.definitions.specs.Packed.{signed}
use Rattle.std.proofs.Common.{w32}
use Rattle.packer.proofs.checked.signed_value.Goals as goal

pub returns-then-sign : goal.returns-then-sign
unfolding signed
returns-then-sign c =
    rw (to_z-of_z {w = w32} (record { sfits = c.from_bits.type_inv }), c.from_bits.ensures, c.if-sign.true)

pub returns-else-sign : goal.returns-else-sign
unfolding signed
returns-else-sign c =
    rw (to_z-of_z {w = w32} (record { sfits = c.from_bits-else-sign.type_inv }), c.from_bits-else-sign.ensures, c.if-sign.false)
