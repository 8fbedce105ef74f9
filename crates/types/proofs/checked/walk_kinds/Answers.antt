use Rattle.definitions.specs.Refusals.{duplicate_uuid_type}
use Rattle.definitions.specs.Outcome.{Outcome, err}
use Rattle.format.specs.Sources.{uuid_excess}
use native.Mathlib.Omega.{arith}
use mathlib.Core.Path.{◌≡◌, sym, ap, subst, ◌∙◌}
use mathlib.Core.List.{List}
use Prim.Native.Nat.{ℕ, ◌+◌, ◌<◌}
use lib.Dec.{ltb}
use lib.IntN.{ℤ}
use lib.ListN.{length}
use Rattle.laws.specs.Tests.{at_most_one}
use Rattle.types.specs.Picks.{values_of, item_of, table_in}
use Rattle.types.proofs.Walking.{one_if}
use Rattle.types.proofs.Naming.{named-first, named_again}
use Rattle.types.proofs.Judging.{left, left-start, turn-new, turn-again, turn-short, turn-none}
use Rattle.types.proofs.checked.walk_kinds.Goals as goal

pub loop-j-init : goal.loop-j-init
loop-j-init c =
    let a = c.args in
    record { few = omega arith; rest = left-start (table_in a.picked.src.now a.picked.n a.picked.index.now) (item_of a.picked.src.now a.picked.index.now) a.z }

pub returns-then-classes-j : goal.returns-then-classes-j
returns-then-classes-j c =
    let l = c.loop-j in
    let a = c.args in
    let p = c.requires in
    let h = c.loop-j-test.true in
    let k : l.j < a.z = omega (arith, h, p.1.upto) in
    let counted : c.one_if-excess.result ≡ one_if (ltb 4 (length (values_of a.picked.src.now a.picked.index.now l.j))) = c.one_if-excess.ensures ∙ ap (λ (v : List ℤ). one_if (ltb 4 (length v))) c.data_of.ensures in
    sym l.invariant.rest
    ∙ turn-again (table_in a.picked.src.now a.picked.n a.picked.index.now) (item_of a.picked.src.now a.picked.index.now) a.z l.j l.excess k (p.0.kinds l.j k) (p.1.whole.long l.j h) (named_again a.picked.src.now a.picked.index.now a.picked.n a.m p.1.whole a.classes.now p.3 l.j h c.if-classes-j.true)
    ∙ ap {B = Outcome (Unit {0})} (λ (i : ℕ). err duplicate_uuid_type (uuid_excess (l.excess + i))) (sym counted)

pub loop-j-preserved : goal.loop-j-preserved
loop-j-preserved c =
    let l = c.loop-j in
    let a = c.args in
    let p = c.requires in
    let h = c.loop-j-test.true in
    let k : l.j < a.z = omega (arith, h, p.1.upto) in
    let counted : c.one_if-excess.result ≡ one_if (ltb 4 (length (values_of a.picked.src.now a.picked.index.now l.j))) = c.one_if-excess.ensures ∙ ap (λ (v : List ℤ). one_if (ltb 4 (length v))) c.data_of.ensures in
    record {
      few = omega (arith, counted, at_most_one (ltb 4 (length (values_of a.picked.src.now a.picked.index.now l.j))), l.invariant.few);
      rest = ap (λ (i : ℕ). left (table_in a.picked.src.now a.picked.n a.picked.index.now) (item_of a.picked.src.now a.picked.index.now) a.z (l.j + 1) (l.excess + i)) counted
          ∙ sym (turn-new (table_in a.picked.src.now a.picked.n a.picked.index.now) (item_of a.picked.src.now a.picked.index.now) a.z l.j l.excess k (p.0.kinds l.j k) (p.1.whole.long l.j h) (named-first a.picked.src.now a.picked.index.now a.picked.n a.m p.1.whole a.classes.now p.3 l.j h c.if-classes-j.false))
          ∙ l.invariant.rest;
    }

pub returns-then-m-z : goal.returns-then-m-z
returns-then-m-z c =
    let l = c.loop-j in
    let a = c.args in
    let p = c.requires in
    let e : l.j ≡ a.m = omega arith in
    sym l.invariant.rest
    ∙ turn-short (table_in a.picked.src.now a.picked.n a.picked.index.now) (item_of a.picked.src.now a.picked.index.now) a.z l.j l.excess (omega arith) (p.0.kinds l.j (omega arith)) (subst (λ (i : ℕ). length (values_of a.picked.src.now a.picked.index.now i) < 4) (sym e) (p.1.short c.if-m-z.true))

pub returns : goal.returns
returns c =
    let l = c.loop-j in
    let a = c.args in
    sym l.invariant.rest ∙ turn-none (table_in a.picked.src.now a.picked.n a.picked.index.now) (item_of a.picked.src.now a.picked.index.now) a.z l.j l.excess (omega arith)
