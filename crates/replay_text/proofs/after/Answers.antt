-- `replay_text::after` meets its contract, by whether there is such a byte. Assumes nothing.
use mathlib.Core.Path.{◌∙◌}
use Prim.Native.Nat.{◌+◌, ◌-◌}
use native.Mathlib.Omega.{arith}
use lib.ListN.{length, drop, length-drop}
use lib.Seq.{take_all}
use Rattle.replay_text.proofs.WordLaws.{behind, nothing-behind}
use Rattle.replay_text.proofs.after.Goals as goal

pub returns-then-n-src : goal.returns-then-n-src
returns-then-n-src c =
    let s = c.args in
    let n = c.count_until-n in
    take_all (length s.src.now - (n.result + 1)) (drop (n.result + 1) s.src.now) (simp length-drop (omega arith))
    ∙ behind s.b s.src.now n.result n.ensures.0

pub returns-else-n-src : goal.returns-else-n-src
returns-else-n-src c =
    let s = c.args in
    nothing-behind s.b s.src.now c.count_until-n.result c.count_until-n.ensures.0 c.if-n-src.false
