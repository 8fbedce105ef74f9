-- `places::read_plain_int` meets its contract: too many ints, or the int at the place. Assumes nothing.
use mathlib.Core.Path.{◌∙◌}
use Rattle.packer.proofs.Calls.{plain-too-long, plain-read}
use Rattle.packer.proofs.places.read_plain_int.Goals as goal

pub returns-then-src-gt-MAX_INPUT : goal.returns-then-src-gt-MAX_INPUT
returns-then-src-gt-MAX_INPUT c = let a = c.args in plain-too-long a.src.now a.at c.if-src-gt-MAX_INPUT.true

pub returns : goal.returns
returns c =
    let a = c.args in
    plain-read a.src.now a.at c.if-src-gt-MAX_INPUT.false ∙ c.read_plain_int.ensures
