-- `checked::read_padding` meets its contract: step by step as the definition. Assumes nothing.
use Rattle.std.proofs.Common.{SFits}
use borrow.Author.Rules.{rules}
use mir.Syntax.{w32}
use Rattle.definitions.specs.Refusals.{unexpected_end}
use Rattle.delta_source.proofs.Nexts.{missing-as}
use Rattle.delta_source.proofs.Heading.{odd-bits, no-padding, padding-read}
use Rattle.delta_source.proofs.checked.read_padding.Goals as goal

pub returns-in_default : goal.returns-in_default
returns-in_default c =
    let a = c.args in
    let e = c.in_default.is in
    no-padding _ a.at a.deleted a.updated a.overlong _ (rw e at c.next_int-padding.ensures) (missing-as unexpected_end c.missing.ensures e)

pub returns : goal.returns
returns c =
    let a = c.args in
    let x = c.in-Ok.int.value in
    rw c.one_if.ensures
    (padding-read _ a.at a.deleted a.updated a.overlong _ (rw c.in-Ok.is at c.next_int-padding.ensures) (odd-bits x (let it : SFits w32 x = search rules in it).sfits))
