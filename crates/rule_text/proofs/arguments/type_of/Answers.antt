-- `rule_text::arguments::type_of` meets its contract, by whether the word is a type. Assumes nothing.
use mathlib.Core.Path.{sym, ◌∙◌}
use native.Mathlib.Omega.{arith}
use Rattle.rule_text.proofs.Digits.{up-most, type-odd, type-is}
use Rattle.rule_text.proofs.arguments.type_of.Goals as goal

pub overflow_cast-result : goal.overflow_cast-result
overflow_cast-result c = omega (arith, c.number.ensures, up-most _ _ (sym c.up_to.ensures ∙ c.if-up_to.true))

pub returns-then-up_to : goal.returns-then-up_to
returns-then-up_to c = type-is _ _ c.number.ensures (sym c.up_to.ensures ∙ c.if-up_to.true)

pub returns-else-up_to : goal.returns-else-up_to
returns-else-up_to c = type-odd _ (sym c.up_to.ensures ∙ c.if-up_to.false)
