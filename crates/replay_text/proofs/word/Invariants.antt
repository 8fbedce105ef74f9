-- `replay_text::word` meets its contract. The loop's invariant: the word is as many words on in the rest as are still to be passed. Assumes nothing.
use mathlib.Core.Path.{◌≡◌}
use Prim.Native.Nat.{◌-◌}
use Rattle.replay_text.specs.Words.{word}
use Rattle.replay_text.proofs.word.Given as goal

abbrev pub invariant-loop : goal.invariant-loop
invariant-loop l = word (l.number - l.counter) l.rest ≡ word l.number l.line
