-- `checked::judge_kinds` meets its contract: at first all items are in one class. Assumes nothing.
use native.Mathlib.Omega.{arith}
use mathlib.Core.Path.{refl}
use lib.ListN.{replicate, get_or-replicate}
use Rattle.types.specs.Kinds.{halves}
use Rattle.types.proofs.Classes.{firsts-none}
use Rattle.types.proofs.checked.judge_kinds.Goals as goal

pub classify-requires : goal.classify-requires
classify-requires c =
    let p = c.requires in
    let a = c.args in
    let w = c.count_whole-m.ensures.whole in
    (w, refl, firsts-none (halves a.picked.src.now a.picked.index.now) c.count_whole-m.result (replicate 1024 0) (λ j h. get_or-replicate 1024 j 0 0 (omega (arith, w.some, a.picked.picks.indexed.few))))
