use Prim.Native.Nat.{◌+◌, ◌-◌, ◌<◌, ◌≤◌, ◌^◌}
use mathlib.Core.Path.{◌≡◌, sym, ◌∙◌}
use borrow.Author.Tests.{not-true, not-false}
use native.Mathlib.Omega.{arith}
use lib.IntN.{pos}
use mir.Facts.{to_z-of_z}
use Rattle.definitions.specs.Ints.{bits, signed_less}
use Rattle.laws.specs.IntLaws.{negative-high, not-negative-low}
use Rattle.laws.specs.ApplyHalves.{high-start}
use Rattle.applying.proofs.Turns.{next_low, none-low, high-turn}
use Rattle.std.proofs.Common.{w32}
use Rattle.applying.proofs.checked.low_updates.Goals as goal
use Rattle.applying.proofs.checked.low_updates.Goals.{After-signed_less, Else-not-signed_less, Then-not-signed_less}

-- the update's key is compared with 0
compared : (c : After-signed_less) → c.signed_less.result ≡ signed_less c.update_key.result (pos 0)
compared c = c.signed_less.ensures ∙ rw (to_z-of_z {w = w32} (record { sfits = c.update_key.type_inv }))

low : (c : Then-not-signed_less) → bits c.update_key.result < 2 ^ 31
low c = not-negative-low _ (record { sfits = c.update_key.type_inv }) (sym (compared c.before) ∙ not-true _ c.if-not-signed_less.true-raw)

high : (c : Else-not-signed_less) → 2 ^ 31 ≤ bits c.update_key.result
high c = negative-high _ (record { sfits = c.update_key.type_inv }) (sym (compared c.before) ∙ not-false _ c.if-not-signed_less.false-raw)

pub loop-i-init : goal.loop-i-init
loop-i-init c = let e : c.args.updated - 0 ≡ c.args.updated = omega arith in rw e (high-start _ _ _ c.requires)

pub returns-then-not-signed_less : goal.returns-then-not-signed_less
returns-then-not-signed_less c =
    (c.loop-i.invariant, next_low c.args.delta.now c.loop-i.p (c.args.updated - c.loop-i.i) _ (omega arith) c.update_key.ensures (low c))

pub loop-i-preserved : goal.loop-i-preserved
loop-i-preserved c =
    let e : c.args.updated - (c.loop-i.i + 1) ≡ c.args.updated - c.loop-i.i - 1 = omega arith in
    rw e
    (high-turn c.loop-i.invariant (omega arith) _ _ c.update_key.ensures (high c.before) c.next_update-p.ensures)

pub returns : goal.returns
returns c =
    let e : c.args.updated - c.loop-i.i ≡ 0 = omega arith in
    (rw e at c.loop-i.invariant, none-low c.args.delta.now c.loop-i.p 0 (omega arith))
