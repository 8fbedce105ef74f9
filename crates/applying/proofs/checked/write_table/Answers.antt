-- `checked::write_table` meets its contract: two counts, and then the two passes of the merge. Assumes nothing.
use Prim.Native.Nat.{◌+◌, ◌≤◌}
use mathlib.Core.Path.{◌≡◌, ◌∙◌}
use native.Mathlib.Omega.{arith}
use lib.ListN.{length}
use Rattle.apply_judging.specs.Judging.{DeletedKeys}
use Rattle.applying.proofs.Whole.{first-going, second-going, whole-written, front-within}
use Rattle.applying.proofs.checked.write_table.Goals as goal
use Rattle.applying.proofs.checked.write_table.Goals.{After-low_updates-low, After-merge_part-mid, After-put-2, Start}

-- the deleted keys
keys : (s : Start) → DeletedKeys s.args.delta.now s.args.deleted
keys s = record { room = s.requires.1.room; keys = s.requires.1.deleted }

-- the sizes
within : (c : After-low_updates-low) → let s = c.before.before in (2 + s.args.n ≤ s.args.ints) × (c.low_updates-low.result.left ≤ s.args.updated)
within c =
    let s = c in
    front-within s.args.base.now s.args.nb s.requires.0 s.args.delta.now s.args.deleted s.args.updated s.requires.1 s.args.n s.args.ints s.requires.2 c.walk_start-half.result c.walk_start-half.ensures c.low_updates-low.result.update c.low_updates-low.result.left c.low_updates-low.ensures.0 c.low_updates-low.ensures.1

-- out stays as long as it is
long-counts : (c : After-put-2) → length c.put-2.new.area ≡ length c.args.out.now
long-counts c = c.put-2.auto.area ∙ c.put.auto.area

long-first : (c : After-merge_part-mid) → length c.merge_part-mid.new.out ≡ length c.args.out.now
long-first c = c.merge_part-mid.auto.out ∙ long-counts c.before.before.before

pub overflow_sub-ints : goal.overflow_sub-ints
overflow_sub-ints c = (within c.before).0

pub put-requires : goal.put-requires
put-requires c = (omega (arith, (within c.before).0, c.requires.5), omega (arith, c.requires.4))

pub put-requires-2 : goal.put-requires-2
put-requires-2 c =
    (omega (arith, (within c.before.before.before.before).0, c.requires.5, c.put.auto.area), omega (arith, c.requires.3))

pub merge_part-mid-requires : goal.merge_part-mid-requires
merge_part-mid-requires c =
    (c.requires.0, keys c.before.before.before.before.before.before.before.before.before, first-going c.args.base.now c.args.nb c.requires.0 c.args.delta.now c.args.deleted c.args.updated c.requires.1 c.args.n c.args.ints c.requires.2 c.walk_start-half.result c.walk_start-half.ensures c.low_updates-low.result.update c.low_updates-low.result.left c.low_updates-low.ensures.0 c.low_updates-low.ensures.1 _ (omega (arith, c.requires.5, long-counts c.before.before)) c.requires.4)

pub merge_part-requires : goal.merge_part-requires
merge_part-requires c =
    (c.requires.0, keys c.before.before.before.before.before.before.before.before.before.before.before.before.before, second-going c.args.base.now c.args.nb c.requires.0 c.args.delta.now c.args.deleted c.args.updated c.requires.1 c.args.n c.args.ints c.requires.2 c.walk_start-half.result c.walk_start-half.ensures c.low_updates-low.result.update c.low_updates-low.result.left c.low_updates-low.ensures.0 c.low_updates-low.ensures.1 _ _ _ c.merge_part-mid.ensures.0 c.merge_part-mid.ensures.1 (omega (arith, c.requires.5, long-first c.before.before.before)) c.requires.4)

pub returns : goal.returns
returns c =
    whole-written c.args.base.now c.args.nb c.requires.0 c.args.delta.now c.args.deleted c.args.updated c.requires.1 c.args.n c.args.ints c.requires.2 c.walk_start-half.result c.walk_start-half.ensures c.low_updates-low.result.update c.low_updates-low.result.left c.low_updates-low.ensures.0 c.low_updates-low.ensures.1 _ _ c.args.out.now c.put.new.area c.put-2.new.area c.merge_part-mid.new.out _ c.requires.5 c.put.ensures c.put-2.ensures c.merge_part-mid.ensures.2 c.merge_part-mid.ensures.0 c.merge_part-mid.ensures.1 c.merge_part.ensures.2
