-- `packer::checked::read_plain_int` meets its contract: the int, or the end. Assumes nothing.
use mir.Facts.{to_z-of_z}
use native.Mathlib.Omega.{arith}
use Rattle.laws.specs.ReaderLaws.{int-end, int-found}
use Rattle.std.proofs.Common.{SFits, get_or, pos, w32, rules}
use Rattle.packer.proofs.checked.read_plain_int.Goals as goal

pub returns-then-src-at : goal.returns-then-src-at
returns-then-src-at c = let a = c.args in int-end a.src.now a.at c.if-src-at.true

pub returns : goal.returns
returns c =
    let a = c.args in
    let fits : SFits w32 (get_or a.src.now a.at (pos 0)) = search rules in
    rw (to_z-of_z {w = w32} fits) (int-found a.src.now a.at (omega arith))
