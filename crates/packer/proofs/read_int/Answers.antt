-- `packer::read_int` meets its contract: too many bytes, or the integer at the place. Assumes nothing.
use mathlib.Core.Path.{◌∙◌}
use Rattle.packer.proofs.Calls.{int-too-long, int-read}
use Rattle.packer.proofs.read_int.Goals as goal

pub returns-then-src-gt-MAX_INPUT : goal.returns-then-src-gt-MAX_INPUT
returns-then-src-gt-MAX_INPUT c = let a = c.args in int-too-long a.src.now a.at c.if-src-gt-MAX_INPUT.true

pub returns : goal.returns
returns c =
    let a = c.args in
    int-read a.src.now a.at c.if-src-gt-MAX_INPUT.false ∙ c.read_int.ensures
