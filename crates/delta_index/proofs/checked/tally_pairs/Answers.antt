use Rattle.std.proofs.Common.{ap, ◌∙◌, sym, ◌+◌, ℕ}
use Rattle.sorting.specs.Pairs.{pair_at, pairs}
use Rattle.delta_index.specs.Walks.{next-entry, none_left}
use Rattle.delta_index.proofs.Telling.{tells-key, tells-update, told-all}
use Rattle.delta_index.proofs.checked.tally_pairs.Goals as goal
use Rattle.delta_index.proofs.checked.tally_pairs.Goals.{then-place_at-eq0, else-place_at-eq0}

pub loop-i-preserved : goal.loop-i-preserved
loop-i-preserved c =
    let l = c.loop-i in
    let f = pair_at c.args.index.now in
    let h = next-entry f c.args.n l.i c.loop-i-test.true in
    let k = ap (λ (k : ℕ). k + 1) c.key_at-next.ensures.0 in
    elim c.if-place_at-eq0.branch [
      | then-place_at-eq0 w ↦
          rw (w.deleted-is, w.updated-is, w.across-is, w.d-is)
          (tells-key (pairs c.args.index.now c.args.n) l.i _ _ _ _ (f l.i) _ l.invariant h k _ (sym c.place_at.ensures ∙ w.if-place_at-eq0.true) w.one_if-deleted.ensures)
      | else-place_at-eq0 w ↦
          rw (w.deleted-is, w.updated-is, w.across-is, w.d-is)
          (tells-update (pairs c.args.index.now c.args.n) l.i _ _ _ _ (f l.i) _ l.invariant h k _ _ _ (λ e. w.if-place_at-eq0.false (c.place_at.ensures ∙ e)) w.is_last-last.ensures w.one_if-updated.ensures w.one_if-across.ensures)
    ]

pub returns : goal.returns
returns c =
    told-all (pairs c.args.index.now c.args.n) c.loop-i.i _ _ _ _ c.loop-i.invariant (none_left (pair_at c.args.index.now) c.args.n c.loop-i.i c.loop-i-test.false)
