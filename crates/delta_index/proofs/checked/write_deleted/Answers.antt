use Rattle.std.proofs.Common.{ap, ◌∙◌, sym, ◌+◌, ℕ, w32, to_z-of_z}
use Rattle.sorting.specs.Pairs.{pair_at, pairs}
use Rattle.delta_index.specs.Walks.{next-entry, none_left}
use Rattle.delta_index.proofs.Telling.{passes-update, passes-again, has_room, puts-key, put_all}
use Rattle.delta_index.proofs.checked.write_deleted.Goals as goal
use Rattle.delta_index.proofs.checked.write_deleted.Goals.{then-place_at-eq0+then-d-next, else-place_at-eq0, else-place_at-eq0-via-then-place_at-eq0+else-d-next, else-place_at-eq0-via-else-place_at-eq0}

pub bounds-out-w : goal.bounds-out-w
bounds-out-w c =
    let l = c.loop-i in
    let f = pair_at c.args.index.now in
    has_room (pairs c.args.index.now c.args.n) _ _ l.i l.w l.d l.out (f l.i) l.invariant (next-entry f c.args.n l.i c.loop-i-test.true)
    (sym c.place_at.ensures ∙ c.if-place_at-eq0.true)
    (λ e. c.if-d-next.true (e ∙ ap (λ (k : ℕ). k + 1) (sym c.key_at-rank.ensures.0))) c.requires.1

pub loop-i-preserved : goal.loop-i-preserved
loop-i-preserved c =
    let l = c.loop-i in
    let f = pair_at c.args.index.now in
    let s = pairs c.args.index.now c.args.n in
    let h = next-entry f c.args.n l.i c.loop-i-test.true in
    elim c.if-place_at-eq0.branch [
      | then-place_at-eq0+then-d-next w ↦
          rw (w.out-is, w.w-is, w.d-is, to_z-of_z {w = w32} (record { sfits = w.int_at.type_inv }))
          (puts-key s _ _ l.i l.w l.d l.out (f l.i) l.invariant h (sym c.place_at.ensures ∙ w.if-place_at-eq0.true)
          (λ e. w.if-d-next.true (e ∙ ap (λ (k : ℕ). k + 1) (sym c.key_at-rank.ensures.0))) _ _ c.key_at-rank.ensures.0 w.int_at.ensures c.requires.1)
      | else-place_at-eq0 w ↦
          rw (w.out-is, w.w-is, w.d-is)
          (elim w.else-place_at-eq0.branch [
            | else-place_at-eq0-via-then-place_at-eq0+else-d-next v ↦
                passes-again s _ _ l.i l.w l.d l.out (f l.i) l.invariant h (sym c.place_at.ensures ∙ v.if-place_at-eq0.true)
                (v.if-d-next.false ∙ ap (λ (k : ℕ). k + 1) c.key_at-rank.ensures.0)
            | else-place_at-eq0-via-else-place_at-eq0 v ↦
                passes-update s _ _ l.i l.w l.d l.out (f l.i) l.invariant h (λ e. v.if-place_at-eq0.false (c.place_at.ensures ∙ e))
          ])
    ]

pub returns : goal.returns
returns c =
    let l = c.loop-i in
    put_all (pairs c.args.index.now c.args.n) _ _ l.i l.w l.d l.out l.invariant (none_left (pair_at c.args.index.now) c.args.n l.i c.loop-i-test.false)
