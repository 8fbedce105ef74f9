use mathlib.Core.Path.{◌≡◌, refl, sym, ap, ◌∙◌}
use Prim.Native.Nat.{ℕ, ◌-◌, ◌*◌, ◌%◌, ◌^◌, ◌<◌, ◌≤◌}
use native.Mathlib.Omega.{arith}
use lib.ListN.{get_or}
use Rattle.packer.specs.Answers.{int_read}
use Rattle.packer.proofs.Steps.{more-end, more-more, more-last, is_last, not_last, second, small, light, lighter, earlier, heavy, digit}
use borrow.Author.Rules.{rules}
use Rattle.packer.proofs.checked.read_more.Goals as goal
use Rattle.packer.proofs.checked.read_more.Lts as lts
use Rattle.packer.proofs.checked.read_more.Tie as tie
use Rattle.packer.proofs.checked.read_more.Reads as reads

abbrev Else-is_last : Type 0
Else-is_last = lts.Else1 tie.the-claims reads.Pre reads.Post goal.the-invariant-loop-at goal.the-decreases-loop-at

abbrev Then-is_last : Type 0
Then-is_last = lts.Then1 tie.the-claims reads.Pre reads.Post goal.the-invariant-loop-at goal.the-decreases-loop-at

-- the last byte: what it weighs
module _ (c : Then-is_last) where
  abbrev final : ℕ
  final = get_or c.args.src.now c.loop-at.at 0

  weight-fits : final * c.loop-at.weight < 2 ^ 35
  weight-fits =
      let small : final < 256 = search rules in
      heavy c.loop-at.invariant.weighs small

-- a byte that another one follows
module _ (c : Else-is_last) where
  abbrev byte : ℕ
  byte = get_or c.args.src.now c.loop-at.at 0

  follows : (128 ≤ byte) × (c.loop-at.weight ≡ 134217728 → ⊥)
  follows = not_last byte c.loop-at.weight (sym c.is_last.ensures ∙ c.if-is_last.false)

  some_left : 0 < c.loop-at.invariant.left
  some_left = earlier c.loop-at.invariant.weighs follows.1

  digit-fits : byte % 128 * c.loop-at.weight ≤ 127 * c.loop-at.weight
  digit-fits = digit c.loop-at.weight (omega arith)

  weight-small : c.loop-at.weight ≤ 1048576
  weight-small = small c.loop-at.invariant.weighs some_left

pub loop-at-init : goal.loop-at-init
loop-at-init c = record { left = 3; weighs = second; few = search rules; same = refl }

pub overflow_mul-b : goal.overflow_mul-b
overflow_mul-b c = omega (arith, weight-fits c.before)

pub overflow_add-digits : goal.overflow_add-digits
overflow_add-digits c = omega (arith, weight-fits c.before, c.loop-at.invariant.few, light c.loop-at.invariant.weighs)

pub returns-then-is_last : goal.returns-then-is_last
returns-then-is_last c =
    let a = c.args in
    let l = c.loop-at in
    l.invariant.same
    ∙ more-last a.src.now l.at l.digits a.sign c.loop-at-test.true l.invariant.weighs l.invariant.few
    (is_last (final c.before.before) l.weight (sym c.is_last.ensures ∙ c.if-is_last.true))
    ∙ sym (ap int_read c.last_byte.ensures)

pub loop-at-smaller : goal.loop-at-smaller
loop-at-smaller c = omega (arith, c.loop-at-test.true)

pub loop-at-preserved : goal.loop-at-preserved
loop-at-preserved c =
    let a = c.args in
    let l = c.loop-at in
    record {
      left = l.invariant.left - 1;
      weighs = lighter l.invariant.weighs (some_left c.before);
      few = omega (arith, digit-fits c.before, l.invariant.few);
      same =
          l.invariant.same
          ∙ more-more a.src.now l.at l.invariant.left l.weight l.digits a.sign (some_left c.before) c.loop-at-test.true (follows c.before).0;
    }

pub returns : goal.returns
returns c =
    let a = c.args in
    let l = c.loop-at in
    l.invariant.same ∙ more-end a.src.now l.at l.invariant.left l.weight l.digits a.sign c.loop-at-test.false
