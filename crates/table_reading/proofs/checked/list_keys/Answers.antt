use mathlib.Core.Path.{◌≡◌, sym, ap, subst, ◌∙◌}
use mathlib.Core.Bool.{true}
use mathlib.Core.List.{List, [], ◌∷◌, ◌++◌}
use Prim.Native.Nat.{ℕ, ◌+◌, ◌/◌, ◌^◌, ◌<◌}
use native.Mathlib.Omega.{arith}
use lib.IntN.{ℤ, pos}
use lib.ListN.{get_or}
use lib.Signed.{mag}
use mir.Syntax.{w32}
use mir.Val.{to_z, of_z}
use mir.Facts.{to_z-of_z}
use Rattle.definitions.specs.Ints.{bits}
use Rattle.definitions.specs.Tables.{edge, ends}
use Rattle.sorting.specs.Pairs.{pair, pairs}
use Rattle.table_reading.specs.Reading.{Fine, numbered, all, not-at-zero, ends-badly}
use Rattle.table_reading.proofs.Endings.{bad-end, good-end, fine-zero, none-numbered, begins-inside, small-end, numbered_more, oversized, fine_more}
use Rattle.table_reading.proofs.checked.list_keys.Goals as goal

-- the key is listed
listed : (a : List ℤ) (n len i here : ℕ) (keys more : List ℤ) → Fine a n len i → i < n → ends a i ≡ true → here ≡ edge a i → pairs keys i ≡ numbered a i
    → mag (get_or a (2 + n + here / 4) (pos 0)) < 2 ^ 31
    → pairs more (i + 1) ≡ pairs keys i ++ pair (bits (to_z w32 (of_z w32 (get_or a (2 + n + here / 4) (pos 0))))) i ∷ []
    → pairs more (i + 1) ≡ numbered a (i + 1)
listed a n len i here keys more f l e h p m q =
    numbered_more a n len i f l e here keys more h p (q ∙ ap (λ (z : ℤ). pairs keys i ++ pair (bits z) i ∷ []) (to_z-of_z {w = w32} (record { sfits = m })))

pub returns-then-edge-ne0 : goal.returns-then-edge-ne0
returns-then-edge-ne0 c =
    record {
      few = omega arith;
      keys-are = none-numbered c.args.src.now c.args.keys.now;
      ending = not-at-zero (λ e. c.if-edge-ne0.true (c.edge.ensures.0 ∙ e));
    }

pub loop-i-init : goal.loop-i-init
loop-i-init c =
    let e = sym c.edge.ensures.0 ∙ c.if-edge-ne0.false in
    (fine-zero c.args.src.now c.args.n c.args.len c.requires.0 e, sym e, none-numbered c.args.src.now c.args.keys.now)

pub returns-in_default : goal.returns-in_default
returns-in_default c =
    let l = c.loop-i in
    record {
      few = omega (arith, l.invariant.0.few);
      keys-are = l.invariant.2;
      ending = ends-badly l.invariant.0 c.loop-i-test.true (bad-end c.args.src.now l.i c.in_default.ensures);
    }

pub bounds-src-at : goal.bounds-src-at
bounds-src-at c =
    let l = c.loop-i in
    let ok = good-end c.args.src.now l.i _ c.in-Some.ensures in
    begins-inside c.args.src.now _ _ _ l.invariant.0 c.loop-i-test.true ok.0 l.here l.invariant.1

pub judge_size-requires : goal.judge_size-requires
judge_size-requires c =
    let l = c.loop-i in
    let ok = good-end c.args.src.now l.i _ c.in-Some.ensures in
    (l.invariant.0.few, omega (arith, ok.1, small-end c.args.src.now _ _ _ l.invariant.0 c.loop-i-test.true ok.0))

pub returns-in-Err : goal.returns-in-Err
returns-in-Err c =
    let a = c.args.src.now in
    let l = c.loop-i in
    let ok = good-end a l.i _ c.in-Some.ensures in
    record {
      few = omega (arith, l.invariant.0.few);
      keys-are = listed a _ _ l.i l.here l.keys c.put_pair.new.a l.invariant.0 c.loop-i-test.true ok.0 l.invariant.1 l.invariant.2 (omega arith) c.put_pair.ensures;
      ending = oversized a _ _ _ l.invariant.0 c.loop-i-test.true ok.0 _ _ ok.1 (sym c.judge_size.ensures ∙ c.in-Err.is);
    }

pub loop-i-preserved : goal.loop-i-preserved
loop-i-preserved c =
    let a = c.args.src.now in
    let l = c.loop-i in
    let ok = good-end a l.i _ c.in-Some.ensures in (
      fine_more a _ _ _ l.invariant.0 c.loop-i-test.true ok.0 l.here _ l.invariant.1 ok.1 (omega arith) (sym c.judge_size.ensures ∙ c.in_default-judge_size.is),
      ok.1,
      listed a _ _ l.i l.here l.keys c.put_pair.new.a l.invariant.0 c.loop-i-test.true ok.0 l.invariant.1 l.invariant.2 (omega arith) c.put_pair.ensures,
    )

pub returns : goal.returns
returns c =
    let l = c.loop-i in
    let e : l.i ≡ c.args.n = omega arith in
    record {
      few = omega (arith, l.invariant.0.few);
      keys-are = subst (λ (k : ℕ). pairs l.keys k ≡ numbered c.args.src.now k) e l.invariant.2;
      ending = all (subst (Fine c.args.src.now c.args.n c.args.len) e l.invariant.0);
    }
