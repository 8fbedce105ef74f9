use native.Mathlib.Omega.{arith}
use borrow.Author.Rules.{rules}
use Rattle.receiver.proofs.Parts.{joins-length, joins}
use Rattle.receiver.proofs.checked.join.Goals as goal

pub loop-i-preserved : goal.loop-i-preserved
loop-i-preserved c =
    let a = c.args in
    let l = c.loop-i in
    let e = c.join_part-at.ensures in
    (omega (arith, e.1, l.invariant.0), search rules, joins-length a.lengths.now a.parts.now l.i l.at _ l.invariant.2 e.0, λ out g. joins a.lengths.now a.parts.now out l.joined _ l.i l.at l.invariant.2 (l.invariant.3 out g) e.2)
