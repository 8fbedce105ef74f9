use Prim.Native.Nat.{◌+◌, ◌-◌, ◌<◌, ◌≤◌}
use mathlib.Core.Path.{◌≡◌, sym, ap, ◌∙◌}
use native.Mathlib.Omega.{arith}
use borrow.Author.Tests.{not-true, not-false}
use mir.Facts.{to_z-of_z}
use Rattle.definitions.specs.Ints.{bits, signed_less}
use Rattle.definitions.specs.Deltas.{rank, update_end}
use Rattle.laws.specs.IntLaws.{less-ranks, not-less-ranks}
use Rattle.laws.specs.DeltaShape.{Update}
use Rattle.delta_form.proofs.Turns.{end-found, end-missing, none_left, unfit, turn}
use Rattle.std.proofs.Common.{w32, to_z}
use Rattle.std.proofs.Math.Facts.{sfits_to_z}
use Rattle.delta_form.proofs.checked.updates_fit_above.Goals as goal
use Rattle.delta_form.proofs.checked.updates_fit_above.Goals.{After-signed_less, In_ok-end, Else-not-signed_less, Then-not-signed_less}

-- the current update is within the area
lies : (c : In_ok-end) → let sizes = c.args.sizes.now in let a = c.args.area.now in Update sizes a c.loop.p × (c.in_ok-end.end ≡ update_end sizes a c.loop.p)
lies c = end-found _ _ _ _ c.in_ok-end.ensures

-- its key is compared with the one before, as signed
compared : (c : After-signed_less) → c.signed_less.result ≡ signed_less (to_z w32 c.loop.last-bits) c.update_key-key.result
compared c = c.signed_less.ensures ∙ rw (to_z-of_z {w = w32} (record { sfits = c.update_key-key.type_inv }))

above : (c : Else-not-signed_less) → rank (bits (to_z w32 c.loop.last-bits)) < rank (bits c.update_key-key.result)
above c =
    less-ranks (to_z w32 c.loop.last-bits) c.update_key-key.result (sfits_to_z c.loop.auto.last) (record { sfits = c.update_key-key.type_inv }) (sym (compared c.before) ∙ not-false _ c.if-not-signed_less.false-raw)

not-above : (c : Then-not-signed_less) → rank (bits c.update_key-key.result) ≤ rank (bits (to_z w32 c.loop.last-bits))
not-above c =
    not-less-ranks (to_z w32 c.loop.last-bits) c.update_key-key.result (sfits_to_z c.loop.auto.last) (record { sfits = c.update_key-key.type_inv }) (sym (compared c.before) ∙ not-true _ c.if-not-signed_less.true-raw)

pub returns-in_err-end : goal.returns-in_err-end
returns-in_err-end c =
    c.from_residual.ensures
    ∙ unfit c.args.sizes.now c.args.area.now c.loop.p (rank (bits (to_z w32 c.loop.last-bits)) + 1) (c.args.n - c.loop.counter) (omega arith) (λ u m. end-missing _ _ _ c.in_err-end.ensures u)
    ∙ (rw (to_z-of_z {w = w32} c.ranges.before) at c.loop.invariant).1

pub update_key-key-requires : goal.update_key-key-requires
update_key-key-requires c = let u = (lies c).0 in (u.head, u.type-below, u.id_below)

pub returns-then-not-signed_less : goal.returns-then-not-signed_less
returns-then-not-signed_less c =
    unfit c.args.sizes.now c.args.area.now c.loop.p (rank (bits (to_z w32 c.loop.last-bits)) + 1) (c.args.n - c.loop.counter) (omega arith) (λ u m. omega (arith, ap rank c.update_key-key.ensures, not-above c))
    ∙ (rw (to_z-of_z {w = w32} c.ranges.before) at c.loop.invariant).1

pub loop-preserved : goal.loop-preserved
loop-preserved c =
    rw (to_z-of_z {w = w32} c.ranges.before, to_z-of_z {w = w32} (record { sfits = c.update_key-key.type_inv }))
    (let k = c in
    let u = lies c.before.before.before in (
      omega (arith, u.0.ends),
      turn c.args.sizes.now c.args.area.now c.loop.p (rank (bits (to_z w32 c.loop.last-bits)) + 1) (c.args.n - c.loop.counter) _ _ _ (omega arith) u.0 u.1 (ap rank k.update_key-key.ensures) (omega (arith, above c))
          ∙ (rw (to_z-of_z {w = w32} c.ranges.before) at c.loop.invariant).1,
    ))

pub returns : goal.returns
returns c =
    none_left c.args.sizes.now c.args.area.now c.loop.p (rank (bits (to_z w32 c.loop.last-bits)) + 1) (c.args.n - c.loop.counter) (omega arith) ∙ (rw (to_z-of_z {w = w32} c.ranges.before) at c.loop.invariant).1
