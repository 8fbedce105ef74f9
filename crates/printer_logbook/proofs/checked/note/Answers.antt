-- `checked::note` meets its contract: late, come already, or new. Assumes nothing.
use mathlib.Core.Path.{sym, ap, ◌∙◌}
use native.Mathlib.Omega.{arith}
use mathlib.Core.List.{List, ◌∷◌}
use Prim.Native.Nat.{ℕ}
use lib.ListN.{length-set}
use Rattle.definitions.specs.DeltaReading.{elem}
use Rattle.printer_logbook.specs.States.{logbook_of}
use Rattle.printer_logbook.proofs.Lists.{part-stored}
use Rattle.printer_logbook.proofs.Notes.{note-late, note-again, note-new}
use borrow.Author.Rules.{rules}
use Rattle.printer_logbook.proofs.checked.note.Goals as goal

pub returns-then-late : goal.returns-then-late
returns-then-late c =
    let l = c in
    let a = l.args in
    note-late (logbook_of a.g a.came.now a.held.now) a.tick.0 a.base.0 a.part a.count (sym l.late.ensures ∙ c.if-late.true)
    ∙ c.refused.ensures a.came.now a.held.now

pub returns-then-elem : goal.returns-then-elem
returns-then-elem c =
    let m = c in
    let o = c in
    let l = c in
    let a = l.args in
    note-again (logbook_of a.g a.came.now a.held.now) a.tick.0 a.base.0 a.part a.count (sym l.late.ensures ∙ o.if-late.false) (ap (elem a.part) (sym (o.came_of-parts.ensures.0 a.came.now)) ∙ sym m.elem.ensures ∙ c.if-elem.true)
    ∙ c.refused-then-elem.ensures a.came.now a.held.now

pub part_came-requires : goal.part_came-requires
part_came-requires c = (rw length-set (omega arith), search rules)

pub returns : goal.returns
returns c =
    let m = c in
    let o = c in
    let l = c in
    let a = l.args in
    let k = o.came_of-parts.ensures.0 a.came.now in
    let q = part-stored o.came_of-parts.result a.came.now a.part (omega arith) ∙ ap (λ (others : List ℕ). a.part ∷ others) k in
    note-new (logbook_of a.g a.came.now a.held.now) a.tick.0 a.base.0 a.part a.count (sym l.late.ensures ∙ o.if-late.false) (ap (elem a.part) (sym k) ∙ sym m.elem.ensures ∙ c.if-elem.false) q (c.part_came.ensures a.came.now)
