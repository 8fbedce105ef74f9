-- `rule_text::arguments::int_of` meets its contract, by whether the word is an int. Assumes nothing.
use mathlib.Core.Path.{sym, ◌∙◌}
use mir.Facts.{to_z-of_z}
use Rattle.rule_text.proofs.Digits.{int-odd, int_is}
use Rattle.std.proofs.Common.{w32}
use Rattle.rule_text.proofs.arguments.int_of.Goals as goal

pub returns-then-is_int : goal.returns-then-is_int
returns-then-is_int c = int_is _ _ (to_z-of_z {w = w32} (record { sfits = c.int.type_inv }) ∙ c.int.ensures) (sym c.is_int.ensures ∙ c.if-is_int.true)

pub returns-else-is_int : goal.returns-else-is_int
returns-else-is_int c = int-odd _ (sym c.is_int.ensures ∙ c.if-is_int.false)
