use Prim.Native.Nat.{ℕ}
use mathlib.Core.Path.{◌≡◌, sym, ap, ◌∙◌, subst}
use native.Mathlib.Omega.{arith}
use mir.Syntax.{w32}
use mir.Val.{to_z, of_z}
use mir.Facts.{to_z-of_z}
use Rattle.definitions.specs.Ints.{bits}
use Rattle.laws.specs.TableFind.{Place}
use Rattle.definitions.specs.Tables.{items, key_at}
use Rattle.definitions.specs.DeltaMaking.{first_clash}
use Rattle.delta_making.proofs.Places.{along-start, along-next}
use Rattle.delta_making.proofs.Parts.{part-all, clash-step, clash-here, clash-end, below-is, below_none}
use Rattle.delta_making.proofs.checked.find_differing.Goals as goal
use Rattle.delta_making.proofs.checked.find_differing.Goals.{After-key_at, After-next_place-p}

-- the key of the i-th item as it is passed
key-is : (c : After-key_at) → bits (to_z w32 (of_z w32 c.key_at.result)) ≡ key_at c.args.target.now c.loop-i.i
key-is c = ap bits (to_z-of_z {w = w32} (record { sfits = c.key_at.type_inv })) ∙ c.key_at.ensures

placed : (c : After-next_place-p) → Place c.args.base.now (key_at c.args.target.now c.loop-i.i) c.next_place-p.result
placed c =
    subst (λ (k : ℕ). Place c.args.base.now k c.next_place-p.result) (key-is c.before) c.next_place-p.ensures

pub loop-i-init : goal.loop-i-init
loop-i-init c =
    (along-start _ _ _ 0, ap (first_clash (items c.args.base.now)) (part-all c.args.target.now c.args.nt c.requires.1))

pub loop-i-preserved : goal.loop-i-preserved
loop-i-preserved c = (
  along-next c.args.base.now c.args.nb c.requires.0 c.args.target.now c.args.nt c.requires.1 c.next_place-p.result c.loop-i.i c.loop-i-test.true (placed c.before.before),
  sym (clash-step _ _ _ c.requires.1 _ _ c.loop-i-test.true (omega arith) (sym c.is_as_long.ensures ∙ c.if-not-is_as_long.false))
      ∙ c.loop-i.invariant.1,
)

pub returns-then-not-is_as_long : goal.returns-then-not-is_as_long
returns-then-not-is_as_long c =
    sym c.loop-i.invariant.1
    ∙ (clash-here _ _ _ c.requires.1 _ _ c.loop-i-test.true (omega arith) (sym c.is_as_long.ensures ∙ c.if-not-is_as_long.true)
    ∙ sym (below-is c.args.target.now c.args.nt c.loop-i.i c.loop-i-test.true))

pub returns : goal.returns
returns c =
    sym c.loop-i.invariant.1
    ∙ (clash-end (items c.args.base.now) c.loop-i.i c.args.nt (items c.args.target.now) c.loop-i-test.false
    ∙ sym (below_none c.args.target.now c.args.nt c.args.nt (omega arith)))
