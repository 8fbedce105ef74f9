use Prim.Native.Nat.{ℕ}
use mathlib.Core.Path.{◌≡◌, ap, ◌∙◌, subst}
use native.Mathlib.Nat.{zero-add}
use native.Mathlib.Omega.{arith}
use lib.ListN.{length}
use mir.Syntax.{w32}
use mir.Val.{to_z, of_z}
use mir.Facts.{to_z-of_z}
use Rattle.definitions.specs.Ints.{bits}
use Rattle.laws.specs.TableFind.{Place}
use mathlib.Core.Bool.{cond, not}
use Rattle.definitions.specs.Tables.{items, key_at, find, is_some}
use Rattle.definitions.specs.DeltaMaking.{lacking}
use Rattle.laws.specs.Tests.{at_most_one}
use Rattle.delta_making.proofs.Places.{along-start, along-next}
use Rattle.delta_making.proofs.Parts.{part-all, lacking-step, lacking-end}
use borrow.Author.Rules.{rules}
use Rattle.delta_making.proofs.checked.count_deleted.Goals as goal
use Rattle.delta_making.proofs.checked.count_deleted.Goals.{After-key_at-key, After-next_place-p, After-one_if-deleted}

-- the key of the i-th item as it is passed
key-is : (c : After-key_at-key) → bits (to_z w32 (of_z w32 c.key_at-key.result)) ≡ key_at c.args.base.now c.loop-i.i
key-is c = ap bits (to_z-of_z {w = w32} (record { sfits = c.key_at-key.type_inv })) ∙ c.key_at-key.ensures

placed : (c : After-next_place-p) → Place c.args.target.now (key_at c.args.base.now c.loop-i.i) c.next_place-p.result
placed c =
    subst (λ (k : ℕ). Place c.args.target.now k c.next_place-p.result) (key-is c.before) c.next_place-p.ensures

-- one more if the target lacks the key
counted : (c : After-one_if-deleted) → let s = c.args in c.one_if-deleted.result ≡ cond (not (is_some (find (key_at s.base.now c.loop-i.i) (items s.target.now)))) 1 0
counted c =
    let s = c.args in
    c.one_if-deleted.ensures ∙ ap (λ b. cond (not b) 1 0) (c.has_key.ensures ∙ ap (λ (k : ℕ). is_some (find k (items s.target.now))) (key-is c.before.before.before))

pub loop-i-init : goal.loop-i-init
loop-i-init c =
    (along-start _ _ _ 0, search rules, zero-add _ ∙ ap (λ t. length (lacking (items c.args.target.now) t)) (part-all c.args.base.now c.args.nb c.requires.0))

pub loop-i-preserved : goal.loop-i-preserved
loop-i-preserved c =
    let o = at_most_one (not c.has_key.result) in (
      along-next c.args.target.now c.args.nt c.requires.1 c.args.base.now c.args.nb c.requires.0 c.next_place-p.result c.loop-i.i c.loop-i-test.true (placed c.before.before),
      omega (arith, c.one_if-deleted.ensures),
      omega (arith, counted c, c.loop-i.invariant.2, lacking-step (items c.args.target.now) c.args.base.now c.args.nb c.requires.0 c.loop-i.i c.args.nb c.loop-i-test.true (omega arith)),
    )

pub returns : goal.returns
returns c =
    let z = lacking-end (items c.args.target.now) c.loop-i.i c.args.nb (items c.args.base.now) c.loop-i-test.false in
    (omega (arith, c.loop-i.invariant.2), omega arith)
