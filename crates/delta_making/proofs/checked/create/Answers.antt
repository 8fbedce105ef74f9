-- `checked::create` meets its contract: one lemma for each answer. Assumes nothing.
use Prim.Native.Nat.{◌+◌, ◌-◌, ◌≤◌}
use mathlib.Core.Path.{◌≡◌, refl}
use mathlib.Core.Bool.{true}
use native.Mathlib.Omega.{arith}
use lib.ListN.{length}
use mir.Facts.{to_z-of_z}
use Rattle.definitions.specs.Tables.{items}
use Rattle.definitions.specs.Deltas.{written_delta}
use Rattle.definitions.specs.DeltaMaking.{alike, delta_from}
use Rattle.delta_making.proofs.Creations.{refused-10, refused-40, done, likes, unlike, told, end_is, length-is}
use Rattle.std.proofs.Common.{w32}
use Rattle.delta_making.proofs.checked.create.Goals as goal
use Rattle.delta_making.proofs.checked.create.Goals.{After-start_at-end, Else-i-nt}

-- items with the same key have the same length
like : (c : Else-i-nt) → let s = c.args in alike (items s.base.now) (items s.target.now) ≡ true
like c = likes _ _ _ _ c.find_differing-i.ensures c.if-i-nt.false

-- how many ints the delta has
takes : (c : After-start_at-end) → let s = c.args in 3 + c.count_deleted-deleted.result + (s.nt + (c.start_at-end.result - 2)) ≡ length (written_delta (delta_from (items s.base.now) (items s.target.now)))
takes c =
    let s = c in
    length-is (items s.args.base.now) s.args.target.now s.args.nt s.requires.1 _ _ (like c.before.before)
    c.count_deleted-deleted.ensures.0 c.start_at-end.ensures

ends : (c : After-start_at-end) → let s = c.args in (2 ≤ c.start_at-end.result) × (c.start_at-end.result ≤ 16384) × (s.nt ≤ 1024) × (s.nb ≤ 1024)
ends c =
    let s = c in
    let h = s.requires.1 in
    let e = end_is (items s.args.base.now) s.args.target.now s.args.nt h in
    (omega (arith, c.start_at-end.ensures), omega (arith, c.start_at-end.ensures, h.count-is, h.shape.short), omega (arith, h.count-is, h.shape.few), omega (arith, s.requires.0.count-is, s.requires.0.shape.few))

pub returns-then-i-nt : goal.returns-then-i-nt
returns-then-i-nt c =
    let d = c.find_differing-i.ensures in record { target_value = refused-10 (items c.args.base.now) (items c.args.target.now) c.args.out.now (unlike _ _ _ _ d c.if-i-nt.true); result_value = told _ _ _ _ d c.if-i-nt.true _ _ (record { sfits = c.key_at.type_inv }) c.key_at.ensures (to_z-of_z {w = w32} (record { sfits = c.key_at.type_inv })) }

pub overflow_sub-ints : goal.overflow_sub-ints
overflow_sub-ints c = let e = ends c in omega arith

pub overflow_add-ints-2 : goal.overflow_add-ints-2
overflow_add-ints-2 c = let e = ends c in omega arith

pub overflow_add-ints-3 : goal.overflow_add-ints-3
overflow_add-ints-3 c = let e = ends c in omega (arith, c.count_deleted-deleted.ensures.1)

pub returns-then-out-ints : goal.returns-then-out-ints
returns-then-out-ints c =
    record { target_value = refused-40 (items c.args.base.now) (items c.args.target.now) c.args.out.now (like c.before.before.before) (omega (arith, takes c.before)); result_value = refl }

pub write_delta-requires : goal.write_delta-requires
write_delta-requires c =
    (c.requires.0, c.requires.1, like c.before.before.before.before, c.count_deleted-deleted.ensures.0, c.count_deleted-deleted.ensures.1, omega (arith, takes c.before.before))

pub returns : goal.returns
returns c =
    let b = items c.args.base.now in
    let t = items c.args.target.now in record { target_value = done b t c.args.out.now (like c.before.before.before.before.before.before) _ _ (takes c.before.before.before.before) (omega arith) c.write_delta.ensures; result_value = refl }
