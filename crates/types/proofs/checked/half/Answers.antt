-- `checked::half` meets its contract. Assumes nothing.
use native.Mathlib.Omega.{arith}
use borrow.Author.Tests.{eq-eqb, ne_eqb}
use Rattle.types.specs.Kinds as Kinds
use Rattle.types.proofs.checked.half.Goals as goal

pub returns-then-i-eq0 : goal.returns-then-i-eq0
unfolding Kinds.half
returns-then-i-eq0 c =
    (rw (c.bits_at-bits.ensures.0, eq-eqb _ _ c.if-i-eq0.true), omega (arith, c.bits_at-bits.ensures.1))

pub returns-else-i-eq0 : goal.returns-else-i-eq0
unfolding Kinds.half
returns-else-i-eq0 c = (rw (c.bits_at-bits.ensures.0, ne_eqb _ _ c.if-i-eq0.false), omega arith)
