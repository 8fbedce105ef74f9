use mathlib.Core.Path.{◌≡◌, refl, sym, ◌∙◌}
use native.Mathlib.Omega.{arith}
use Prim.Native.Nat.{◌<◌}
use lib.IntN.{pos}
use lib.ListN.{get_or}
use lib.Seq.{get_or-take, length-take-le}
use mir.Facts.{to_z-of_z}
use Rattle.std.proofs.Common.{SFits, w32, rules}
use Rattle.ints.specs.Same.{equal-same}
use Rattle.definitions.specs.Receiver.{same}
use Rattle.definitions.specs.Logbook.{has_tick}
use Rattle.printer_logbook.proofs.Lists.{has-turn, has-found}
use Rattle.printer_logbook.proofs.checked.has_tick.Goals as goal

pub loop-x-init : goal.loop-x-init
unfolding has_tick
loop-x-init c = refl

pub returns-then-eq : goal.returns-then-eq
returns-then-eq c =
    let a = c.args in
    let k : c.loop-x.x-index < a.n = omega (arith, length-take-le a.n a.held.now c.requires) in
    let b : SFits w32 (get_or a.held.now c.loop-x.x-index (pos 0)) = record { sfits = rw (get_or-take a.n a.held.now c.loop-x.x-index (pos 0) k) at c.eq-arg-1.given } in
    let f : SFits w32 a.tick.0 = search rules in
    let e : c.eq.result ≡ same (get_or a.held.now c.loop-x.x-index (pos 0)) a.tick.0 =
    (rw (to_z-of_z {w = w32} (record { sfits = c.eq-arg-1.given }), get_or-take a.n a.held.now c.loop-x.x-index (pos 0) k) at c.eq.ensures) ∙ equal-same b f in
    has-found _ a.held.now c.loop-x.x-index a.n k (sym e ∙ c.if-eq.true)

pub loop-x-preserved : goal.loop-x-preserved
loop-x-preserved c =
    let a = c.args in
    let k : c.loop-x.x-index < a.n = omega (arith, length-take-le a.n a.held.now c.requires) in
    let b : SFits w32 (get_or a.held.now c.loop-x.x-index (pos 0)) = record { sfits = rw (get_or-take a.n a.held.now c.loop-x.x-index (pos 0) k) at c.eq-arg-1.given } in
    let f : SFits w32 a.tick.0 = search rules in
    let e : c.eq.result ≡ same (get_or a.held.now c.loop-x.x-index (pos 0)) a.tick.0 =
    (rw (to_z-of_z {w = w32} (record { sfits = c.eq-arg-1.given }), get_or-take a.n a.held.now c.loop-x.x-index (pos 0) k) at c.eq.ensures) ∙ equal-same b f in
    has-turn _ a.held.now c.loop-x.x-index (sym e ∙ c.if-eq.false) c.loop-x.invariant
