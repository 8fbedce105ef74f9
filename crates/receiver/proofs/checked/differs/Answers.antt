-- `checked::differs` meets its contract: number by number. Assumes nothing.
use mathlib.Core.Path.{◌≡◌, refl, sym, ap, ◌∙◌}
use mathlib.Core.Bool.{not}
use Rattle.std.proofs.Common.{SFits, rules}
use Rattle.ints.specs.Same.{equal-same}
use Rattle.definitions.specs.Ints.{bits}
use mir.Syntax.{w32}
use mir.Facts.{to_z-of_z}
use borrow.Author.Tests.{eqb-false, not-true, not-false}
use Rattle.definitions.specs.Messages.{base_tick}
use Rattle.definitions.specs.Tables.{num}
use Rattle.definitions.specs.Receiver as Receiver
use Rattle.laws.specs.DifferingLaws.{other-base, other-count}
use Rattle.ticks.specs.Ticks.{distance_of}
use Rattle.receiver.specs.States.{current_in, part_of}
use Rattle.receiver.proofs.Opening.{by-sum}
use Rattle.receiver.proofs.checked.differs.Goals as goal
use Rattle.receiver.proofs.checked.differs.Lts as lts
use Rattle.receiver.proofs.checked.differs.Tie as tie
use Rattle.receiver.proofs.checked.differs.Reads as reads

abbrev After-ne : Type 0
After-ne = lts.After-ne tie.the-claims reads.Pre reads.Post

abbrev After-num : Type 0
After-num = lts.After-num tie.the-claims reads.Pre reads.Post

-- whether the base is another than the first part's
near : (c : After-ne) → let a = c.args in c.ne.result ≡ not (Receiver.same (base_tick a.m.tick.0 (distance_of a.m.delta_tick)) a.o.delta_tick.0)
near c =
    let f : SFits w32 c.minus-base.result.0 = search rules in
    let g : SFits w32 c.args.o.delta_tick.0 = search rules in
    let e : c.ne.result ≡ not (Receiver.same c.minus-base.result.0 c.args.o.delta_tick.0) = c.ne.ensures ∙ ap not (equal-same f g) in
    rw c.minus-base.ensures at e

-- the part count
count : (c : After-num) → c.num.result ≡ num c.args.m.num_parts
count c =
    let m = c.args.m in
    rw (to_z-of_z {w = w32} {z = m.num_parts} (record { sfits = c.struct_told-1.given.1.1.0.1 })) at c.num.ensures.0

pub returns-then-ne : goal.returns-then-ne
returns-then-ne c =
    let a = c.args in
    sym (other-base (current_in a.o) (part_of a.m) (eqb-false _ _ (not-true _ (sym (near c.before) ∙ c.if-ne.true))))

pub returns-then-num-k : goal.returns-then-num-k
returns-then-num-k c =
    let a = c.args in
    sym (other-count (current_in a.o) (part_of a.m) (λ q. c.if-num-k.true (count c.before ∙ q)))

pub returns : goal.returns
unfolding bits
returns c =
    let a = c.args in
    by-sum (current_in a.o) (part_of a.m) _ (not-false _ (sym (near c.before.before.before.before.before.before.before) ∙ c.if-ne.false)) (sym (count c.before.before.before.before) ∙ c.if-num-k.false) refl
