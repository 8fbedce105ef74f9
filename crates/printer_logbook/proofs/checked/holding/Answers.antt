-- `checked::holding` meets its contract. Assumes nothing.
use mathlib.Core.Path.{◌∙◌}
use native.Mathlib.Omega.{arith}
use lib.ListN.{length-set}
use mir.Facts.{to_z-of_z}
use Rattle.printer_logbook.proofs.Notes.{holds-few, holds-many}
use mir.Syntax.{w32}
use Rattle.printer_logbook.proofs.checked.holding.Goals as goal

pub lowest-low-requires : goal.lowest-low-requires
lowest-low-requires c = rw length-set (omega arith)

pub without-requires : goal.without-requires
without-requires c = rw length-set (omega arith)

pub shape_of-held-then-n-gt-MAX_TICKS : goal.shape_of-held-then-n-gt-MAX_TICKS
shape_of-held-then-n-gt-MAX_TICKS c =
    let a = c.args in
    c.without.auto.held ∙ length-set a.held.now a.n _

pub returns-then-n-gt-MAX_TICKS : goal.returns-then-n-gt-MAX_TICKS
returns-then-n-gt-MAX_TICKS c =
    let s = c in
    let a = s.args in
    let f = to_z-of_z {w = w32} {z = a.tick.0} (record { sfits = s.struct_told-1.given.0.1 }) in
    let e = rw f at c.lowest-low.ensures in
    let k = rw f at c.without.ensures.0 in
    holds-many a.n a.held.now a.tick.0 _ (omega arith) c.if-n-gt-MAX_TICKS.true e k

pub returns : goal.returns
returns c =
    let s = c in
    let a = s.args in
    rw (to_z-of_z {w = w32} {z = a.tick.0} (record { sfits = s.struct_told-1.given.0.1 })) (holds-few a.n a.held.now a.tick.0 (omega arith) (omega arith))
