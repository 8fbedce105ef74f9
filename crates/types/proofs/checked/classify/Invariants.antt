-- `checked::classify` meets its contract. The loop's invariant: the classes are those by the halves so far. Assumes nothing.
use Rattle.types.specs.Kinds.{halves, Firsts}
use Rattle.types.proofs.checked.classify.Given as goal

abbrev pub invariant-loop-i : goal.invariant-loop-i
invariant-loop-i l = Firsts (halves l.picked.src.now l.picked.index.now) l.i l.m l.classes
