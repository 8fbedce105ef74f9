-- `replay_text::word` meets its contract: each turn passes one word. Assumes nothing.
use mathlib.Core.Path.{◌≡◌, sym, ◌∙◌}
use Prim.Native.Nat.{◌+◌, ◌-◌}
use native.Mathlib.Omega.{arith}
use Rattle.replay_text.proofs.WordLaws.{later-word}
use Rattle.replay_text.proofs.word.Goals as goal

pub loop-preserved : goal.loop-preserved
loop-preserved c =
    let n = c.args.number in
    let l = c.loop in
    let e : n - (l.counter + 1) ≡ n - l.counter - 1 = omega arith in
    rw (e, c.after-rest.ensures) (sym (later-word (n - l.counter) l.rest.now (λ z. omega arith)) ∙ l.invariant)
