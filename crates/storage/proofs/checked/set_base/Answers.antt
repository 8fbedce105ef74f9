-- `checked::set_base` meets its contract: by the oldest table that is left. Assumes nothing.
use Rattle.definitions.specs.Storage as Store
use Rattle.storage.proofs.Bases.{base-set, base-unknown}
use Rattle.store_area.specs.Held.{snaps_in}
use mathlib.Core.List.{List}
use mathlib.Core.Path.{◌≡◌, sym, ◌∙◌}
use Rattle.storage.proofs.checked.set_base.Goals as goal
use Rattle.storage.proofs.checked.set_base.Lts as lts
use Rattle.storage.proofs.checked.set_base.Tie as tie
use Rattle.storage.proofs.checked.set_base.Reads as reads

abbrev After-is_oldest : Type 0
After-is_oldest = lts.After-is_oldest tie.the-claims reads.Pre reads.Post

abbrev Start : Type 0
Start = lts.Start tie.the-claims reads.Pre reads.Post

-- the tables
abbrev L : Start → List Store.StoredSnap
L s = snaps_in s.args.s.count s.args.area.now

-- those that are left
abbrev Left : Start → List Store.StoredSnap
Left s = Store.drop_older s.args.tick.0 (L s)

-- whether the oldest is of the tick
oldest : (c : After-is_oldest) → let s = c in c.is_oldest.result ≡ Store.is_held (Store.oldest_at s.args.tick.0 (Left c.before.before.before.before))
oldest c = rw c.drop_older-left.ensures.snaps-are at c.is_oldest.ensures

pub returns-then-is_oldest : goal.returns-then-is_oldest
returns-then-is_oldest c =
    let d = c in
    let s = c in
    let x = s.args in
    base-set x.s x.area.now x.tick.0 c.none.result x.ints s.requires.0 s.requires.1 c.with_delta.result _ _ _ d.drop_older-left.ensures
    c.none.ensures (sym (oldest c.before.before.before) ∙ c.if-is_oldest.true) c.with_delta.ensures

pub returns : goal.returns
returns c =
    let d = c in
    let s = c in
    let x = s.args in
    base-unknown x.s x.area.now x.tick.0 c.none-2.result x.ints s.requires.0 s.requires.1 c.without_delta.result _ _ _
    d.drop_older-left.ensures c.none-2.ensures (sym (oldest c.before.before.before) ∙ c.if-is_oldest.false) c.without_delta.ensures
