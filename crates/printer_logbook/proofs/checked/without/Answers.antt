use mathlib.Core.Path.{◌≡◌, refl, sym, ap, ◌∙◌}
use mathlib.Core.Bool.{not}
use borrow.Author.Tests.{not-true, not-false}
use Rattle.definitions.specs.Receiver.{same}
use Rattle.ints.specs.Same.{equal-same}
use native.Mathlib.Omega.{arith}
use lib.IntN.{pos}
use lib.ListN.{get_or}
use mir.Facts.{to_z-of_z}
use Rattle.std.proofs.Common.{SFits, w32, rules}
use Rattle.definitions.specs.Logbook.{without}
use Rattle.printer_logbook.proofs.Lists.{keeps-none, keeps-less, keeps-more, same_out, same_left}
use Rattle.printer_logbook.proofs.checked.without.Goals as goal
use Rattle.printer_logbook.proofs.checked.without.Goals.{then-ne, else-ne}

pub loop-i-init : goal.loop-i-init
unfolding without
loop-i-init c = keeps-none _ _ refl

pub loop-i-preserved : goal.loop-i-preserved
loop-i-preserved c =
    let f = to_z-of_z {w = w32} {z = get_or c.loop-i.held c.loop-i.i (pos 0)} (record { sfits = c.x-1.given }) in
    let b : SFits w32 (get_or c.loop-i.held c.loop-i.i (pos 0)) = record { sfits = c.x-1.given } in
    let g : SFits w32 c.args.tick.0 = search rules in
    let e : c.ne.result ≡ not (same (get_or c.loop-i.held c.loop-i.i (pos 0)) c.args.tick.0) = (rw f at c.ne.ensures) ∙ ap not (equal-same b g) in
    elim c.if-ne.branch [
      | then-ne w ↦ rw (w.held-is, w.kept-is, f) (keeps-more c.loop-i.invariant (omega arith) (same_left _ _ _ (not-true _ (sym e ∙ w.if-ne.true))))
      | else-ne w ↦ rw (w.held-is, w.kept-is) (keeps-less c.loop-i.invariant (same_out _ _ _ (not-false _ (sym e ∙ w.if-ne.false))))
    ]
