use Prim.Native.Nat.{ℕ, ◌+◌, ◌-◌}
use mathlib.Core.Path.{◌≡◌, refl, sym, ◌∙◌, subst}
use mathlib.Core.Bool.{true}
use native.Mathlib.Omega.{arith}
use lib.ListN.{length, take, drop, length-drop}
use lib.Seq.{take_all}
use Rattle.definitions.specs.Tables.{all, fits}
use Rattle.table.proofs.KeyLaws.{rising, first-rises, none-fits, not-all}
use Rattle.table.proofs.checked.keys_fit.Goals as goal
use Rattle.table.proofs.checked.keys_fit.Lts as lts
use Rattle.table.proofs.checked.keys_fit.Tie as tie
use Rattle.table.proofs.checked.keys_fit.Reads as reads

abbrev Start : Type 0
Start = lts.Start tie.the-claims reads.Pre reads.Post goal.the-invariant-loop-i goal.the-decreases-loop-i

-- the part past the offsets
body_is : (s : Start) → let a = s.args.area.now in let k = 2 + s.args.n in take (length a - k) (drop k a) ≡ drop k a
body_is s =
    let a = s.args.area.now in
    let k = 2 + s.args.n in
    take_all (length a - k) (drop k a) (omega (arith, length-drop k a))

pub returns-then-n-eq0 : goal.returns-then-n-eq0
unfolding all
returns-then-n-eq0 c = sym (subst (λ (m : ℕ). all (fits c.args.area.now) m ≡ true) (sym c.if-n-eq0.true) refl)

pub key_bits-last-requires : goal.key_bits-last-requires
key_bits-last-requires c =
    let s = c.before.before in
    (s.requires.0, s.requires.1, omega (arith, c.if-n-eq0.false), body_is s)

pub loop-i-init : goal.loop-i-init
loop-i-init c =
    let i = c.before.before in
    let s = i.before in
    (first-rises s.args.area.now s.args.n s.args.size _ s.requires.0 s.requires.1 (omega (arith, i.if-n-eq0.false)) c.key_bits-last.ensures.0 c.key_bits-last.ensures.2, omega (arith, i.if-n-eq0.false))

pub after_eight-last-requires : goal.after_eight-last-requires
after_eight-last-requires c =
    let l = c.before in
    (l.loop-i.invariant.0, c.loop-i-test.true, body_is l.before.before.before.before)

pub returns-then-last-eq4294967296 : goal.returns-then-last-eq4294967296
returns-then-last-eq4294967296 c =
    let l = c.before.before.before in
    let s = l.before.before.before.before in
    let a = s.args.area.now in
    sym (not-all a (l.loop-i.i + 8) s.args.n (omega arith) (none-fits a (l.loop-i.i + 8) (omega arith) (sym c.if-last-eq4294967296.true ∙ c.after_eight-last.ensures)))

pub loop-i-preserved : goal.loop-i-preserved
loop-i-preserved c =
    let l = c.before.before.before in
    let s = l.before.before.before.before in
    (rising s.args.area.now s.args.n s.args.size l.loop-i.i l.loop-i.last l.loop-i.invariant.0 _ _ (omega arith) c.after_eight-last.ensures c.if-last-eq4294967296.false, omega arith)

pub keys_fit_from-requires : goal.keys_fit_from-requires
keys_fit_from-requires c =
    let l = c.before in
    (l.loop-i.invariant.0, l.loop-i.invariant.1, body_is l.before.before.before.before)

pub returns : goal.returns
returns c = c.keys_fit_from.ensures
