-- `checked::judge` meets its contract. Assumes nothing.
use Prim.Native.Nat.{◌+◌, ◌≤◌}
use Rattle.apply_judging.proofs.Turns.{kept-sizes-within, whole-judged, unknown-told}
use borrow.Author.Rules.{rules}
use Rattle.apply_judging.proofs.checked.judge.Goals as goal
use Rattle.apply_judging.proofs.checked.judge.Goals.{After-kept_sizes-kept}

-- what is kept is within the limits
within : (c : After-kept_sizes-kept) → (c.kept_sizes-kept.result.items ≤ 1024) × (2 + c.kept_sizes-kept.result.items + c.kept_sizes-kept.result.ints ≤ 16384)
within c =
    kept-sizes-within c.args.base.now c.args.nb c.requires.0 c.args.delta.now c.args.deleted c.args.updated c.requires.1 _ _ c.kept_sizes-kept.ensures.0 c.kept_sizes-kept.ensures.1

pub overflow_add-unknown_delete : goal.overflow_add-unknown_delete
overflow_add-unknown_delete c =
    let w = within c.before in
    let r = c.requires.1.room in
    search rules

pub overflow_add-kept : goal.overflow_add-kept
overflow_add-kept c = let w = within c.before.before in search rules

pub overflow_add-kept-2 : goal.overflow_add-kept-2
overflow_add-kept-2 c = let w = within c.before.before.before in search rules

pub judge_updates-judged-requires : goal.judge_updates-judged-requires
judge_updates-judged-requires c =
    let w = within c.before.before.before in
    (c.requires.0, c.requires.1, w.0, w.1)

pub returns : goal.returns
returns c =
    let e = c.kept_sizes-kept.ensures in
    (whole-judged c.args.base.now c.args.nb c.requires.0 c.args.delta.now c.args.deleted c.args.updated c.requires.1 _ _ e.0 e.1 _ c.judge_updates-judged.ensures.0, c.judge_updates-judged.ensures.1, unknown-told c.args.base.now c.args.nb c.requires.0 c.args.delta.now c.args.deleted c.args.updated c.requires.1 _ _ e.0 e.1)
