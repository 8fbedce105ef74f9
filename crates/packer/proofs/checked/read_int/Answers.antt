-- `packer::checked::read_int` meets its contract: the first step of the definition. Assumes nothing.
use mathlib.Core.Path.{◌∙◌}
use mir.Facts.{to_z-of_z}
use Rattle.packer.proofs.Steps.{read-end, read_one, read_more}
use Rattle.std.proofs.Common.{w32}
use Rattle.packer.proofs.checked.read_int.Goals as goal

pub returns-then-src-at : goal.returns-then-src-at
returns-then-src-at c = let a = c.args in read-end a.src.now a.at c.if-src-at.true

pub returns-then-b-lt128 : goal.returns-then-b-lt128
returns-then-b-lt128 c =
    let a = c.args in
    rw (to_z-of_z {w = w32} (record { sfits = c.signed_value.type_inv }), c.signed_value.ensures)
    (read_one a.src.now a.at c.if-src-at.false c.if-b-lt128.true)

pub returns : goal.returns
returns c =
    let a = c.args in
    read_more a.src.now a.at c.if-src-at.false c.if-b-lt128.false ∙ c.read_more.ensures
