-- `checked::apply_on` meets its contract: by the sign of the tick. Assumes nothing.
use Prim.Native.Nat.{◌-◌, ◌<◌}
use Rattle.definitions.specs.Storage as Store
use Rattle.definitions.specs.Tables.{Table, items, count}
use Rattle.storage.proofs.Additions.{empty-table, empty-held, whole-table}
use Rattle.storage.proofs.Deltas.{empty-base, old_base, oldest-held, applies-by}
use Rattle.store_area.specs.Held.{snaps_in, snap_at}
use Rattle.store_area.specs.Laid.{sound-at}
use Rattle.table.specs.Held.{Held}
use mathlib.Core.List.{List}
use mathlib.Core.Option.{some}
use mathlib.Core.Path.{◌≡◌, sym, ap, ◌∙◌, subst}
use native.Mathlib.Omega.{arith}
use Rattle.storage.proofs.checked.apply_on.Goals as goal
use Rattle.storage.proofs.checked.apply_on.Lts as lts
use Rattle.storage.proofs.checked.apply_on.Tie as tie
use Rattle.storage.proofs.checked.apply_on.Reads as reads

abbrev After-table_at-base : Type 0
After-table_at-base = lts.After-table_at tie.the-claims reads.Pre reads.Post

abbrev Else-is_negative : Type 0
Else-is_negative = lts.Else1 tie.the-claims reads.Pre reads.Post

abbrev Start : Type 0
Start = lts.Start tie.the-claims reads.Pre reads.Post

-- the tables
abbrev L : Start → List Store.StoredSnap
L s = snaps_in s.args.count s.args.area.now

-- the oldest table
abbrev Old : Start → Table
Old s = (snap_at (L s) (s.args.count - 1)).snap

-- it is the base
oldest : (c : Else-is_negative) → let s = c.before.before in (0 < s.args.count) × (Store.oldest_at s.args.tick.0 (L c.before.before) ≡ some (Old c.before.before))
oldest c =
    let s = c in
    let b = old_base s.args.tick.0 (L c.before.before) (sym c.is_negative.ensures ∙ c.if-is_negative.false) in
    oldest-held s.args.tick.0 (L c.before.before) s.args.count s.requires.0.many (ap Store.is_held b ∙ s.requires.1)

-- it holds its items
based : (c : After-table_at-base) → let a = c.table_at-base.result.now in Held a (count a) × (items a ≡ Old c.before.before.before)
based c =
    let s = c in
    let h = s.requires.0 in
    let o = oldest c.before in
    let k = sound-at (L c.before.before.before) (s.args.count - 1) h.stands.sounds (omega (arith, h.many, o.0)) in
    whole-table c.table_at-base.result.now (Old c.before.before.before) k c.table_at-base.ensures

pub apply_typed-requires : goal.apply_typed-requires
apply_typed-requires c = (empty-held, c.requires.2, c.requires.3)

pub returns-then-is_negative : goal.returns-then-is_negative
returns-then-is_negative c =
    let s = c in
    let n = sym c.is_negative.ensures ∙ c.if-is_negative.true in
    applies-by _ _ _ _ _ _ (empty-base s.args.tick.0 (L c.before.before.before.before.before.before) n) empty-table.1 c.apply_typed.ensures

pub overflow_sub-count : goal.overflow_sub-count
overflow_sub-count c = let o = oldest (c) in omega (arith, o.0)

pub table_at-base-requires : goal.table_at-base-requires
table_at-base-requires c = let o = oldest (c) in (c.requires.0, omega (arith, o.0))

pub nat_at-nb-requires : goal.nat_at-nb-requires
nat_at-nb-requires c = let h = (based (c)).0 in omega (arith, h.shape.room)

pub apply_typed-requires-2 : goal.apply_typed-requires-2
apply_typed-requires-2 c =
    let s = c in
    let t = c in
    (subst (Held t.table_at-base.result.now) (sym c.nat_at-nb.ensures.0) (based c.before.before).0, s.requires.2, s.requires.3)

pub returns : goal.returns
returns c =
    let s = c in
    let n = sym c.is_negative.ensures ∙ c.if-is_negative.false in
    let b = sym (old_base s.args.tick.0 (L c.before.before.before.before.before.before.before) n) ∙ (oldest c.before.before.before.before.before).1 in
    applies-by _ _ _ _ _ _ b (based c.before.before.before.before).1 c.apply_typed-2.ensures
