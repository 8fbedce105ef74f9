use mathlib.Core.Path.{◌≡◌, refl, sym, ◌∙◌}
use mathlib.Core.Bool.{not}
use borrow.Author.Tests.{not-true, not-false}
use Rattle.definitions.specs.Ints.{signed_less}
use native.Mathlib.Omega.{arith}
use lib.IntN.{pos}
use lib.ListN.{get_or}
use mir.Facts.{to_z-of_z}
use mir.Syntax.{w32}
use Rattle.definitions.specs.Logbook.{not_below}
use Rattle.printer_logbook.proofs.Lists.{not_less-is, keeps-none, keeps-less, keeps-more, below_out, below_left}
use Rattle.printer_logbook.proofs.checked.not_below.Goals as goal
use Rattle.printer_logbook.proofs.checked.not_below.Goals.{then-ge, else-ge}

pub loop-i-init : goal.loop-i-init
unfolding not_below
loop-i-init c = keeps-none _ _ refl

pub loop-i-preserved : goal.loop-i-preserved
loop-i-preserved c =
    let f = to_z-of_z {w = w32} {z = get_or c.loop-i.held c.loop-i.i (pos 0)} (record { sfits = c.x-1.given }) in
    let e : c.ge.result ≡ not (signed_less (get_or c.loop-i.held c.loop-i.i (pos 0)) c.args.tick.0) = (rw f at c.ge.ensures) ∙ not_less-is (get_or c.loop-i.held c.loop-i.i (pos 0)) c.args.tick.0 in
    elim c.if-ge.branch [
      | then-ge w ↦ rw (w.held-is, w.kept-is, f) (keeps-more c.loop-i.invariant (omega arith) (below_left _ _ _ (not-true _ (sym e ∙ w.if-ge.true))))
      | else-ge w ↦ rw (w.held-is, w.kept-is) (keeps-less c.loop-i.invariant (below_out _ _ _ (not-false _ (sym e ∙ w.if-ge.false))))
    ]
