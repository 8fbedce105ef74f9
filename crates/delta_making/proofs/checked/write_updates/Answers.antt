use Prim.Native.Nat.{ℕ, ◌+◌}
use mathlib.Core.Path.{◌≡◌, ap, ◌∙◌, subst}
use native.Mathlib.Omega.{arith}
use lib.IntN.{ℤ}
use mir.Syntax.{w32}
use mir.Val.{to_z, of_z}
use mir.Facts.{to_z-of_z}
use Rattle.definitions.specs.Ints.{bits}
use Rattle.laws.specs.TableFind.{Place}
use mathlib.Core.List.{List, ◌++◌}
use Rattle.definitions.specs.Tables.{items, item_at, key_at}
use Rattle.laws.specs.Laying.{lays-room, lays_more, lays-end}
use Rattle.delta_making.specs.Parts.{part, change_ints, changes_ints}
use Rattle.delta_making.proofs.Places.{along-next}
use Rattle.delta_making.proofs.Parts.{changes-step, changes-end, alike_at}
use Rattle.delta_making.proofs.checked.write_updates.Goals as goal
use Rattle.delta_making.proofs.checked.write_updates.Goals.{After-key_at, After-next_place-p, At-loop-i, In-loop-i}

-- the key of the i-th item as it is passed
key-is : (c : After-key_at) → bits (to_z w32 (of_z w32 c.key_at.result)) ≡ key_at c.args.target.now c.loop-i.i
key-is c = ap bits (to_z-of_z {w = w32} (record { sfits = c.key_at.type_inv })) ∙ c.key_at.ensures

placed : (c : After-next_place-p) → Place c.args.base.now (key_at c.args.target.now c.loop-i.i) c.next_place-p.result
placed c =
    subst (λ (k : ℕ). Place c.args.base.now k c.next_place-p.result) (key-is c.before) c.next_place-p.ensures

-- what remains to be written from the i-th item on
abbrev left : At-loop-i → ℕ → List ℤ
left l i = changes_ints (items l.args.base.now) (part i l.args.to (items l.args.target.now))

abbrev update : At-loop-i → List ℤ
update l = change_ints (items l.args.base.now) (item_at l.args.target.now l.loop-i.i)

-- the update that is written, and what remains after it
taken : (c : In-loop-i) → left c.before c.loop-i.i ≡ update c.before ++ left c.before (c.loop-i.i + 1)
taken c =
    changes-step (items c.args.base.now) c.args.target.now c.args.nt c.requires.1 c.loop-i.i c.args.to c.loop-i-test.true c.requires.3

pub write_update-w-requires : goal.write_update-w-requires
write_update-w-requires c = (
  c.requires.0,
  c.requires.1,
  omega arith,
  placed c.before,
  alike_at (items c.args.base.now) c.args.target.now c.args.nt c.requires.1 c.loop-i.i (omega arith) c.requires.4,
  lays-room c.loop-i.invariant.1 (update c.before.before.before.before) (left c.before.before.before.before (c.loop-i.i + 1)) (taken c.before.before.before) c.requires.5,
)

pub loop-i-preserved : goal.loop-i-preserved
loop-i-preserved c = (
  along-next c.args.base.now c.args.nb c.requires.0 c.args.target.now c.args.nt c.requires.1 c.next_place-p.result c.loop-i.i (omega arith) (placed c.before.before.before),
  lays_more c.loop-i.invariant.1 _ _ (update c.before.before.before.before.before.before) (left c.before.before.before.before.before.before (c.loop-i.i + 1)) (taken c.before.before.before.before.before) c.write_update-w.ensures.out_after c.write_update-w.ensures.value,
)

pub returns : goal.returns
returns c =
    let it =
    lays-end c.loop-i.invariant.1 (changes-end (items c.args.base.now) c.loop-i.i c.args.to (items c.args.target.now) c.loop-i-test.false) in
    record { value = it.0; out_after = it.1 }
