-- `replay_text::until` meets its contract. Assumes nothing.
use mathlib.Core.Path.{ap, ◌∙◌}
use Prim.Native.Nat.{ℕ}
use native.Mathlib.Omega.{arith}
use lib.ListN.{take}
use lib.Seq.{length-take-le}
use Rattle.replay_text.proofs.WordLaws.{front}
use Rattle.replay_text.proofs.until.Goals as goal

pub returns : goal.returns
returns c =
    let s = c.args in
    let n = c.count_until-n in
    (ap (λ (k : ℕ). take k s.src.now) n.ensures.0 ∙ front s.b s.src.now, omega (arith, length-take-le n.result s.src.now n.ensures.1))
