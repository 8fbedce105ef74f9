use Prim.Native.Nat.{ℕ, ◌≤◌}
use mathlib.Core.Path.{◌≡◌, sym, ap, ◌∙◌}
use native.Mathlib.Omega.{arith}
use lib.ListN.{length}
use mir.Syntax.{w32}
use mir.Val.{to_z, of_z}
use mir.Facts.{to_z-of_z}
use Rattle.definitions.specs.Ints.{bits}
use Rattle.definitions.specs.Tables.{key_at}
use Rattle.definitions.specs.DeltaReading.{elem}
use Rattle.apply_judging.specs.Judging.{deleted_of}
use Rattle.apply_judging.proofs.Turns.{keep-start, kept-within, keep-none, keep_one, all-kept}
use borrow.Author.Rules.{rules}
use Rattle.apply_judging.proofs.checked.count_kept.Goals as goal
use Rattle.apply_judging.proofs.checked.count_kept.Goals.{then-not-is_deleted, else-not-is_deleted, After-is_deleted, After-key_at-key, In-loop-i}

-- the item's key as it is passed on
key-is : (c : After-key_at-key) → bits (to_z w32 (of_z w32 c.key_at-key.result)) ≡ key_at c.args.base.now c.loop-i.i
key-is c = ap bits (to_z-of_z {w = w32} (record { sfits = c.key_at-key.type_inv })) ∙ c.key_at-key.ensures

-- whether it is deleted
said : (c : After-is_deleted) → let l = c.before.before.before.before in c.is_deleted.result ≡ elem (key_at l.args.base.now l.loop-i.i) (deleted_of l.args.delta.now l.args.deleted)
said c =
    let l = c in
    c.is_deleted.ensures ∙ ap (λ (k : ℕ). elem k (deleted_of l.args.delta.now l.args.deleted)) (key-is c.before.before)

-- the sizes so far
within : (c : In-loop-i) → (c.loop-i.n ≤ c.loop-i.i) × (c.loop-i.w ≤ 16384)
within c =
    kept-within _ c.args.base.now c.args.nb c.requires.0 c.loop-i.invariant.1 (omega arith)

pub loop-i-init : goal.loop-i-init
loop-i-init c = (omega arith, keep-start _ _)

pub overflow_add-n : goal.overflow_add-n
overflow_add-n c = let w = within c.before.before.before.before in search rules

pub overflow_add-w-then-not-is_deleted : goal.overflow_add-w-then-not-is_deleted
overflow_add-w-then-not-is_deleted c = let w = within c.before.before.before.before.before in search rules

pub loop-i-preserved : goal.loop-i-preserved
loop-i-preserved c =
    let e = said (goal.at.loop-i-preserved c).After-is_deleted in
    let k = deleted_of c.args.delta.now c.args.deleted in (
      c.deleted_near-g.ensures.few,
      elim c.if-not-is_deleted.branch [
        | then-not-is_deleted w ↦
            rw (w.n-is, w.w-is)
            (keep_one k c.args.base.now c.args.nb c.requires.0 c.loop-i.invariant.1 _ (sym e ∙ w.if-not-is_deleted.true) (ap length w.data_at.ensures))
        | else-not-is_deleted w ↦
            rw (w.n-is, w.w-is)
            (keep-none k c.args.base.now c.args.nb c.requires.0 c.loop-i.invariant.1 (sym e ∙ w.if-not-is_deleted.false))
      ],
    )

pub returns : goal.returns
returns c =
    all-kept _ c.args.base.now c.args.nb c.requires.0 c.loop-i.invariant.1 (omega arith) c.loop-i-test.false
