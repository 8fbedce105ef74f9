-- `checked::make` meets its contract: with room by the delta that is made, else by what was judged. Assumes nothing.
use Rattle.std.proofs.Common.{SFits}
use Rattle.definitions.specs.Tables.{items}
use Rattle.storage.proofs.Additions.{with-room, judged-10, judged-none, judged-40}
use mir.Facts.{to_z-of_z}
use mir.Syntax.{w32}
use mathlib.Core.Path.{refl, ap, ◌∙◌}
use mathlib.Core.Option.{some}
use borrow.Author.Rules.{rules}
use Rattle.std.specs.Prelude.{Err}
use Rattle.storage.proofs.checked.make.Goals as goal

pub returns-then-room : goal.returns-then-room
returns-then-room c =
    let s = c.args in record { target_value = with-room s.room s.delta.now _ _ c.if-room.true c.create.ensures.target_value; result_value = c.create.ensures.result_value }

pub returns-in-Ok : goal.returns-in-Ok
returns-in-Ok c =
    let s = c.args in
    let m = c.create-2 in
    let b = items s.base.now in
    let t = items s.target.now in
    let q = judged-none s.room c.if-room.false s.delta.now _ b t m.result m.ensures.target_value _ c.in-Ok.is in record { target_value = q; result_value = refl }

pub returns-in-Err-DifferingSizes : goal.returns-in-Err-DifferingSizes
returns-in-Err-DifferingSizes c =
    let s = c.args in
    let m = c.create-2 in
    let b = items s.base.now in
    let t = items s.target.now in
    let q = judged-10 s.room c.if-room.false s.delta.now _ b t m.result m.ensures.target_value _ (c.in-Err-DifferingSizes.is ∙ ap Err c.in-Err-DifferingSizes.field-0-is) in record { target_value = q; result_value = ap some (to_z-of_z {w = w32} {z = c.in-Err-DifferingSizes.key} (record { sfits = (let it : SFits w32 c.in-Err-DifferingSizes.key = search rules in it).sfits })) ∙ (rw (c.in-Err-DifferingSizes.is, c.in-Err-DifferingSizes.field-0-is) at m.ensures.result_value) }

pub returns-in-Err-Refused : goal.returns-in-Err-Refused
returns-in-Err-Refused c =
    let s = c.args in
    let m = c.create-2 in
    let b = items s.base.now in
    let t = items s.target.now in
    let q = judged-40 s.room c.if-room.false s.delta.now _ b t m.result m.ensures.target_value _ (c.in-Err-Refused.is ∙ ap Err c.in-Err-Refused.field-0-is) m.ensures.result_value in record { target_value = q; result_value = refl }
