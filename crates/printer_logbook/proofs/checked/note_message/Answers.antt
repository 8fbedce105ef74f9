-- `checked::note_message` meets its contract, by the kind of the message. Assumes nothing.
use mir.Facts.{to_z-of_z}
use mir.Syntax.{w32}
use mir.Val.{SFits}
use borrow.Author.Rules.{rules}
use Rattle.printer_logbook.specs.States.{logbook_of}
use Rattle.printer_logbook.proofs.Notes.{noted-part, noted-single, noted-empty}
use Rattle.printer_logbook.proofs.checked.note_message.Goals as goal

pub returns-in-Snap : goal.returns-in-Snap
returns-in-Snap c =
    let a = c.args in
    let n : SFits w32 c.in-Snap.num_parts = search rules in
    let p : SFits w32 c.in-Snap.part = search rules in
    noted-part
    (logbook_of a.g a.came.now a.held.now)
    c.in-Snap.is
    (to_z-of_z {w = w32} n)
    (to_z-of_z {w = w32} p)
    c.minus-base.ensures
    c.num-p.ensures.0
    c.num-count.ensures.0
    c.note.ensures

pub returns-in-SnapSingle : goal.returns-in-SnapSingle
returns-in-SnapSingle c =
    let w = c in
    let a = w.args in
    noted-single
    (logbook_of a.g a.came.now a.held.now)
    w.in-SnapSingle.is
    w.minus-base-in-SnapSingle.ensures
    c.note-in-SnapSingle.ensures

pub returns-in-SnapEmpty : goal.returns-in-SnapEmpty
returns-in-SnapEmpty c =
    let w = c in
    let a = w.args in
    noted-empty
    (logbook_of a.g a.came.now a.held.now)
    w.in-SnapEmpty.is
    w.minus-base-in-SnapEmpty.ensures
    c.note-in-SnapEmpty.ensures
