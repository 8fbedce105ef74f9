use Prim.Native.Nat.{◌+◌, ◌-◌}
use mathlib.Core.Path.{◌≡◌, ap, ◌∙◌}
use native.Mathlib.Omega.{arith}
use mir.Syntax.{w32}
use mir.Val.{to_z, of_z}
use mir.Facts.{to_z-of_z}
use Rattle.definitions.specs.Ints.{bits}
use Rattle.definitions.specs.Deltas.{update_key}
use Rattle.delta_reading.proofs.Counting.{next-update, passed, one-counted, all-counted}
use Rattle.delta_reading.proofs.checked.count_delete_updates.Goals as goal
use Rattle.delta_reading.proofs.checked.count_delete_updates.Goals.{After-update_key-key}

-- the update's key as it is passed on
key-is : (c : After-update_key-key) → bits (to_z w32 (of_z w32 c.update_key-key.result)) ≡ update_key c.args.src.now c.loop.p
key-is c = ap bits (to_z-of_z {w = w32} (record { sfits = c.update_key-key.type_inv })) ∙ c.update_key-key.ensures

pub update_key-key-requires : goal.update_key-key-requires
update_key-key-requires c =
    let u = next-update _ _ _ _ c.loop.invariant (omega arith) in (u.head, u.type-below, u.id_below)

pub deleted_from-i-requires : goal.deleted_from-i-requires
deleted_from-i-requires c =
    (c.requires.room, c.loop.invariant.few, passed _ _ _ _ c.loop.invariant _ (omega arith) (key-is c))

pub update_end-p-requires : goal.update_end-p-requires
update_end-p-requires c =
    let u = next-update _ _ _ _ c.loop.invariant (omega arith) in
    (omega (arith, u.head), u.begins)

pub loop-preserved : goal.loop-preserved
loop-preserved c =
    let step : c.args.updated - (c.loop.counter + 1) ≡ c.args.updated - c.loop.counter - 1 = omega arith in
    rw step
    (let k = c in
    one-counted _ _ _ _ c.loop.invariant _ _ _ _ _ (omega arith) c.requires.deleted (key-is c.before.before.before.before) c.deleted_from-i.ensures c.has_deleted.ensures c.one_if-total.ensures c.update_end-p.ensures)

pub returns : goal.returns
returns c = all-counted _ _ _ _ c.loop.invariant c.requires (omega arith)
