-- `packer::unpack` meets its contract: too many bytes, or what they are unpacked to. Assumes nothing.
use mathlib.Core.Path.{◌∙◌}
use Rattle.packer.proofs.Calls.{too_long, judged}
use Rattle.packer.proofs.unpack.Goals as goal

pub returns-then-src-gt-MAX_INPUT : goal.returns-then-src-gt-MAX_INPUT
returns-then-src-gt-MAX_INPUT c =
    let a = c.args in
    rw c.none.ensures (too_long a.src.now a.out.now c.if-src-gt-MAX_INPUT.true)

pub returns : goal.returns
returns c =
    let a = c.args in
    judged a.src.now a.out.now c.if-src-gt-MAX_INPUT.false ∙ c.unpack_judged.ensures
