-- `checked::read_head` meets its contract: step by step as the definition. Assumes nothing.
use Rattle.std.proofs.Common.{SFits}
use borrow.Author.Rules.{rules}
use mir.Syntax.{w32}
use mir.Facts.{to_z-of_z}
use Rattle.definitions.specs.Refusals.{item_diffs_unpacking}
use Rattle.delta_source.specs.Source.{source}
use Rattle.delta_source.proofs.Nexts.{missing-as}
use Rattle.delta_source.proofs.Reading.{no-type, no-id, head-judged}
use Rattle.delta_source.proofs.checked.read_head.Goals as goal

pub returns-in_default : goal.returns-in_default
returns-in_default c =
    let a = c.args in
    let e = c.in_default.is in
    no-type _ a.sizes.now a.at _ (rw e at c.next_int-first.ensures) (missing-as item_diffs_unpacking c.missing.ensures e)

pub returns-in_default-second : goal.returns-in_default-second
returns-in_default-second c =
    let a = c.args in
    let e = c.in_default-second.is in
    rw c.one_if-overlong.ensures
    (no-id _ a.sizes.now a.at c.in-Ok.type_id _
    (rw c.in-Ok.is at c.next_int-first.ensures)
    (rw e at c.next_int-second.ensures) (missing-as item_diffs_unpacking c.missing-in_default-second.ensures e))

pub returns : goal.returns
returns c =
    let a = c.args in
    let z = to_z-of_z {w = w32} {z = c.in-Ok.type_id.value} (record { sfits = (let it : SFits w32 c.in-Ok.type_id.value = search rules in it).sfits }) in
    let y = to_z-of_z {w = w32} {z = c.in-Ok-second.id.value} (record { sfits = (let it : SFits w32 c.in-Ok-second.id.value = search rules in it).sfits }) in
    head-judged (source a.packed a.bytes.now a.ints.now) a.sizes.now a.at
    c.in-Ok.type_id c.in-Ok-second.id
    (rw c.in-Ok.is at c.next_int-first.ensures)
    (rw c.in-Ok-second.is at c.next_int-second.ensures)
    (rw (z, y, c.one_if-overlong.ensures, c.one_if.ensures) at c.judge_head.ensures)
