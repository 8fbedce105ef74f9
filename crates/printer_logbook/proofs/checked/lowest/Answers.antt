use mathlib.Core.Path.{◌≡◌, sym, ap, ◌∙◌}
use native.Mathlib.Omega.{arith}
use Prim.Native.Nat.{ℕ, ◌-◌}
use lib.IntN.{pos}
use lib.ListN.{get_or}
use Rattle.definitions.specs.Ints.{signed_less}
use Rattle.ticks.specs.declared.Tick.{Tick}
use mir.Facts.{to_z-of_z}
use mir.Syntax.{w32}
use Rattle.definitions.specs.Logbook.{lowest}
use Rattle.printer_logbook.specs.States.{ticks_in}
use Rattle.printer_logbook.proofs.Lists.{less-is, lower-is, lowest-turn}
use Rattle.printer_logbook.proofs.checked.lowest.Goals as goal

pub loop-i-preserved : goal.loop-i-preserved
loop-i-preserved c =
    let x = get_or c.args.held.now (c.loop-i.i - 1) (pos 0) in
    let f = to_z-of_z {w = w32} {z = x} (record { sfits = c.min-arg-1.given }) in
    let e = ap (λ (t : Tick). t.0) (rw (f, less-is x c.loop-i.low.0) at c.min-low.ensures) in
    lowest-turn c.args.held.now c.loop-i.i c.loop-i.low.0 (omega arith) (e ∙ lower-is (signed_less x c.loop-i.low.0) (record { 0 = x }) c.loop-i.low) c.loop-i.invariant

pub returns : goal.returns
unfolding lowest
returns c =
    let a = c.args in
    let e : c.loop-i.i ≡ 0 = omega arith in
    ap (λ (k : ℕ). lowest c.loop-i.low.0 (ticks_in k a.held.now)) (sym e) ∙ c.loop-i.invariant
