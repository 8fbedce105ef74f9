-- `checked::is_key_of` meets its contract. Assumes nothing.
use mathlib.Core.Path.{sym, ◌∙◌}
use native.Mathlib.Omega.{arith}
use borrow.Author.Tests.{eqb-true}
use Rattle.definitions.specs.Ints.{bits}
use Rattle.laws.specs.TableFind.{own-place}
use Rattle.apply_judging.proofs.checked.is_key_of.Goals as goal

pub returns-then-i-n : goal.returns-then-i-n
unfolding bits
returns-then-i-n c e =
    own-place _ c.requires.shape _ _ (omega (arith, c.requires.count-is, c.if-i-n.true)) (sym c.key_at.ensures ∙ eqb-true _ _ e)
