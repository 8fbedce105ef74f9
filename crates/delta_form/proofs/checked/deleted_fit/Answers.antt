use Prim.Native.Nat.{◌+◌, ◌<◌, ◌≤◌}
use mathlib.Core.Path.{◌≡◌, refl, sym, ◌∙◌}
use native.Mathlib.Omega.{arith}
use borrow.Author.Tests.{not-true, not-false}
use mir.Facts.{to_z-of_z}
use lib.IntN.{pos}
use lib.ListN.{get_or}
use Rattle.definitions.specs.Ints.{bits, signed_less}
use Rattle.definitions.specs.Tables.{all}
use Rattle.definitions.specs.Deltas.{rank, deleted_at, lowest_rank, deleted_fits}
use Rattle.laws.specs.IntLaws.{less-ranks, not-less-ranks}
use Rattle.laws.specs.TableShape.{all_more, all-fails}
use Rattle.laws.specs.DeltaShape.{DeletedKey, key_fits, not_key, lowest_rank-next}
use Rattle.std.proofs.Common.{w32, to_z}
use Rattle.std.proofs.Math.Facts.{sfits_to_z}
use Rattle.delta_form.proofs.checked.deleted_fit.Goals as goal
use Rattle.delta_form.proofs.checked.deleted_fit.Goals.{After-signed_less, Else-not-signed_less, Then-not-signed_less}

-- the next key is compared with the last one, as signed
compared : (c : After-signed_less) → c.signed_less.result ≡ signed_less (to_z w32 c.loop-i.last-bits) (get_or c.args.area.now (3 + c.loop-i.i) (pos 0))
compared c = c.signed_less.ensures ∙ rw (to_z-of_z {w = w32} (record { sfits = c.next-1.given }))

above : (c : Else-not-signed_less) → rank (bits (to_z w32 c.loop-i.last-bits)) < rank (deleted_at c.args.area.now c.loop-i.i)
unfolding deleted_at
above c =
    less-ranks (to_z w32 c.loop-i.last-bits) _ (sfits_to_z c.loop-i.auto.last) (record { sfits = c.next-1.given }) (sym (compared c.before) ∙ not-false _ c.if-not-signed_less.false-raw)

not-above : (c : Then-not-signed_less) → rank (deleted_at c.args.area.now c.loop-i.i) ≤ rank (bits (to_z w32 c.loop-i.last-bits))
unfolding deleted_at
not-above c =
    not-less-ranks (to_z w32 c.loop-i.last-bits) _ (sfits_to_z c.loop-i.auto.last) (record { sfits = c.next-1.given }) (sym (compared c.before) ∙ not-true _ c.if-not-signed_less.true-raw)

pub returns-then-n-eq0 : goal.returns-then-n-eq0
unfolding all
returns-then-n-eq0 c = rw c.if-n-eq0.true

pub loop-i-init : goal.loop-i-init
unfolding all lowest_rank deleted_at
loop-i-init c =
    let a = c.args.area.now in
    rw (to_z-of_z {w = w32} (record { sfits = c.last-1.given }))
    (all_more (deleted_fits a) 0 refl (key_fits a 0 (record { order = omega arith; whole = c.last-1.given })), refl)

pub returns-then-not-signed_less : goal.returns-then-not-signed_less
returns-then-not-signed_less c =
    let s = c.args in
    sym (all-fails (deleted_fits s.area.now) c.loop-i.i s.n c.loop-i-test.true (not_key s.area.now c.loop-i.i (λ k. omega (arith, k.order, c.loop-i.invariant.1, not-above c))))

pub loop-i-preserved : goal.loop-i-preserved
unfolding deleted_at
loop-i-preserved c =
    let a = c.args.area.now in
    let i = c.loop-i.i in
    let g = c.next-1.given in
    let k : DeletedKey a i = record { order = omega (arith, c.loop-i.invariant.1, above c); whole = g } in
    rw (to_z-of_z {w = w32} (record { sfits = g })) (all_more (deleted_fits a) i c.loop-i.invariant.0 (key_fits a i k), lowest_rank-next a i)
