use Prim.Native.Nat.{◌+◌, ◌*◌, ◌≤◌, ◌-◌}
use mathlib.Core.Path.{◌≡◌, refl}
use mathlib.Core.List.{[]}
use native.Mathlib.Omega.{arith}
use lib.ListN.{length}
use Rattle.definitions.specs.Packed.{pack_ints}
use Rattle.definitions.specs.Deltas.{update_ints, update_at}
use Rattle.laws.specs.PackLaws.{pack-append}
use Rattle.laws.specs.DeltaShape.{Update, first-update}
use Rattle.delta_writing.proofs.Writing.{measured-under, one-measured, all-measured, packed-nothing, packed-under, packed-parts}
use Rattle.delta_writing.proofs.checked.updates_packed_len.Goals as goal
use Rattle.delta_writing.proofs.checked.updates_packed_len.Goals.{After-packed_len-total-in-loop, In-loop}

-- the update at hand
here : (c : In-loop) → Update [] c.args.area.now c.loop.p
here c = first-update c.loop.invariant.lie (omega arith)

-- what is counted of it
counted : (c : After-packed_len-total-in-loop) → c.packed_len-total.result + c.packed_len-total-in-loop.result ≡ length (pack_ints (update_ints c.args.sizes.now (update_at [] c.args.area.now c.loop.p)))
counted c =
    let s = c.args in
    omega (arith, packed-parts s.sizes.now s.area.now c.loop.p (here c.before.before.before.before) _ c.update_rest.ensures, c.packed_len-total.ensures, c.packed_len-total-in-loop.ensures)

-- the whole fits
inside : (c : In-loop) → c.loop.total + length (pack_ints (update_ints c.args.sizes.now (update_at [] c.args.area.now c.loop.p))) ≤ 5 * length c.args.area.now
inside c =
    let s = c.args in
    omega (arith, measured-under pack_ints packed-nothing pack-append _ _ c.loop.invariant (omega arith), packed-under s.sizes.now s.area.now s.start s.n c.requires.0 c.requires.1)

pub overflow_add-total : goal.overflow_add-total
overflow_add-total c =
    let s = c.args in
    omega (arith, inside c.before.before, packed-parts s.sizes.now s.area.now c.loop.p (here c.before.before) _ refl, c.packed_len-total.ensures)

pub update_rest-requires : goal.update_rest-requires
update_rest-requires c = here c.before.before

pub overflow_add-total-in-loop : goal.overflow_add-total-in-loop
overflow_add-total-in-loop c = omega (arith, inside c.before.before.before.before, counted c)

pub next_update-p-requires : goal.next_update-p-requires
next_update-p-requires c = here c.before.before.before.before

pub loop-preserved : goal.loop-preserved
loop-preserved c =
    let step : c.args.n - (c.loop.counter + 1) ≡ c.args.n - c.loop.counter - 1 = omega arith in
    rw step
    (one-measured pack_ints packed-nothing pack-append _ _ c.loop.invariant _ _ (omega arith) c.next_update-p.ensures (omega (arith, counted c.before)))

pub returns : goal.returns
returns c = all-measured pack_ints packed-nothing pack-append _ _ c.loop.invariant (omega arith)
