-- `packer::checked::read_five` meets its contract: the first step of the definition. Assumes nothing.
use mathlib.Core.Path.{◌∙◌}
use native.Mathlib.Omega.{arith}
use mir.Facts.{to_z-of_z}
use Rattle.packer.proofs.Steps.{read_one, read_more}
use Rattle.std.proofs.Common.{w32}
use Rattle.packer.proofs.checked.read_five.Goals as goal

pub returns-then-b-lt128 : goal.returns-then-b-lt128
returns-then-b-lt128 c =
    let a = c.args in
    rw (to_z-of_z {w = w32} (record { sfits = c.signed_value.type_inv }), c.signed_value.ensures)
    (read_one a.src.now a.at (omega (arith, c.requires)) c.if-b-lt128.true)

pub returns : goal.returns
returns c =
    let a = c.args in
    read_more a.src.now a.at (omega (arith, c.requires)) c.if-b-lt128.false ∙ c.read_four.ensures
