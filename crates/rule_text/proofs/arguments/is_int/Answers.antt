-- `rule_text::arguments::is_int` meets its contract, by whether there is a minus first. Assumes nothing.
use mathlib.Core.Path.{◌≡◌, ap, ◌∙◌}
use Prim.Native.Nat.{◌-◌, ◌<◌}
use native.Mathlib.Omega.{arith}
use lib.ListN.{length, drop, get_or, length-drop}
use lib.Seq.{take_all}
use Rattle.std.proofs.Common.{rules}
use Rattle.rule_text.specs.Arguments.{up_to}
use Rattle.rule_text.proofs.Digits.{int-minus, int-plain}
use Rattle.rule_text.proofs.arguments.is_int.Goals as goal
use Rattle.rule_text.proofs.arguments.is_int.Goals.{in_default-via-then-text-lt1, in_default-via-else-text-lt1+in_default-1}

pub returns-in-45 : goal.returns-in-45
returns-in-45 c =
    let text = c.args.text.now in
    let rest = take_all (length text - 1) (drop 1 text) (simp length-drop (omega arith)) in
    c.up_to.ensures ∙ ap (up_to 2147483648) rest ∙ int-minus text c.in-45.len_at_least (search rules)

pub returns-in_default : goal.returns-in_default
returns-in_default c =
    let text = c.args.text.now in
    let other : 0 < length text → get_or text 0 0 ≡ 45 → ⊥ = elim c.in_default.branch [ in_default-via-then-text-lt1 w ↦ λ h e. search rules | in_default-via-else-text-lt1+in_default-1 w ↦ λ h e. search rules ] in
    c.up_to-in_default.ensures ∙ int-plain text other
