-- `checked::update_key` meets its contract: the int with these bits. Assumes nothing.
use mathlib.Core.Path.{◌∙◌}
use mir.Facts.{to_z-of_z}
use Rattle.laws.specs.IntLaws.{bits_back}
use Rattle.std.proofs.Common.{w32}
use Rattle.delta_form.proofs.checked.update_key.Goals as goal

pub returns : goal.returns
returns c =
    let e = c.update_bits.ensures in
    rw (to_z-of_z {w = w32} (record { sfits = c.from_bits.type_inv }), c.from_bits.ensures) (bits_back _ e.1 ∙ e.0)
