-- `checked::refine` meets its contract: the keys of class and half, sorted, give the new classes. Assumes nothing.
use native.Mathlib.Omega.{arith}
use mathlib.Core.Path.{◌≡◌, ap, ◌∙◌}
use Prim.Native.Nat.{◌≤◌}
use Rattle.definitions.specs.Tables.{list}
use Rattle.sorting.specs.Sort as Sort
use Rattle.sorting.specs.Pairs.{pair_at}
use Rattle.types.specs.Kinds.{halves, keyed, key_with}
use Rattle.types.proofs.Sorting.{sorted-pairs}
use Rattle.types.proofs.Classes.{first-le, refined}
use Rattle.types.proofs.checked.refine.Goals as goal

pub list_halves-requires : goal.list_halves-requires
list_halves-requires c =
    let p = c.requires in
    let a = c.args in
    (p.0, p.1, p.2, first-le (halves a.picked.src.now a.picked.index.now) a.i a.m a.classes.now p.3, p.4)

pub take_leaders-requires : goal.take_leaders-requires
take_leaders-requires c =
    let p = c.requires in
    let a = c.args in
    let few : a.m ≤ 1024 = omega (arith, a.picked.picks.indexed.few, p.0.some) in
    let sorted : list (pair_at c.sort.new.a) a.m ≡ Sort.sort (keyed (halves a.picked.src.now a.picked.index.now) a.classes.now a.i a.m) =
    c.sort.ensures.0 ∙ ap Sort.sort c.list_halves.ensures.0 in
    (omega (arith, p.4, c.list_halves.auto.list, c.sort.auto.a), few, p.2, sorted-pairs (pair_at c.sort.new.a) (key_with (halves a.picked.src.now a.picked.index.now) a.classes.now a.i) a.m few sorted)

pub returns : goal.returns
returns c =
    let p = c.requires in
    let a = c.args in
    let few : a.m ≤ 1024 = omega (arith, a.picked.picks.indexed.few, p.0.some) in
    let sorted : list (pair_at c.sort.new.a) a.m ≡ Sort.sort (keyed (halves a.picked.src.now a.picked.index.now) a.classes.now a.i a.m) =
    c.sort.ensures.0 ∙ ap Sort.sort c.list_halves.ensures.0 in
    refined (halves a.picked.src.now a.picked.index.now) a.i a.m a.classes.now p.3 (pair_at c.sort.new.a) few c.list_halves.ensures.1 sorted c.take_leaders.new.classes c.take_leaders.ensures
