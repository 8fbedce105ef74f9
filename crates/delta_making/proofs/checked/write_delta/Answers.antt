-- `checked::write_delta` meets its contract: each step lays one more part of the written delta. Assumes nothing.
use Prim.Native.Nat.{ℕ}
use mathlib.Core.Path.{refl, sym, ap, ◌∙◌}
use mathlib.Core.List.{List, [], ◌∷◌, ◌++◌, append-nil}
use native.Mathlib.Omega.{arith}
use lib.IntN.{ℤ, pos}
use lib.ListN.{length}
use Rattle.definitions.specs.Areas.{lay_at}
use Rattle.definitions.specs.Tables.{items}
use Rattle.definitions.specs.Deltas.{written_delta}
use Rattle.definitions.specs.DeltaMaking.{lacking, delta_from}
use Rattle.laws.specs.Laying.{Laying, lays-start, lays-room, lays_more, lays-end}
use Rattle.laws.specs.DeltaReadBack.{length-delta_ints}
use Rattle.delta_making.specs.Parts.{part, deleted_ints, changes_ints}
use Rattle.delta_making.proofs.Parts.{delta-parts}
use Rattle.delta_making.proofs.checked.write_delta.Goals as goal
use Rattle.delta_making.proofs.checked.write_delta.Goals.{After-put_counts, After-walk_start-t, After-write_deleted-w1, After-write_deleted-w2, After-write_updates, After-write_updates-w3}

-- the delta, and its parts after the counts
abbrev delta : After-walk_start-t → List ℤ
delta c = let s = c.args in written_delta (delta_from (items s.base.now) (items s.target.now))

abbrev counts : After-walk_start-t → List ℤ
counts c =
    let s = c.args in
    pos (length (lacking (items s.target.now) (items s.base.now))) ∷ pos s.nt ∷ pos 0 ∷ []

abbrev deleted₁ : After-walk_start-t → List ℤ
deleted₁ c = let s = c.args in deleted_ints (items s.target.now) (part c.walk_start-b.result s.nb (items s.base.now))

abbrev deleted₂ : After-walk_start-t → List ℤ
deleted₂ c = let s = c.args in deleted_ints (items s.target.now) (part 0 c.walk_start-b.result (items s.base.now))

abbrev updated₁ : After-walk_start-t → List ℤ
updated₁ c = let s = c.args in changes_ints (items s.base.now) (part c.walk_start-t.result s.nt (items s.target.now))

abbrev updated₂ : After-walk_start-t → List ℤ
updated₂ c = let s = c.args in changes_ints (items s.base.now) (part 0 c.walk_start-t.result (items s.target.now))

-- what remains of it, from w on
abbrev Left : After-walk_start-t → List ℤ → ℕ → List ℤ → Type 0
Left c out w left = Laying c.args.out.now 0 (delta c) out w left

-- ---- back to where both walk starts are known
abbrev from-counts : After-put_counts → After-walk_start-t
from-counts c = c.before.before

abbrev from-deleted : After-write_deleted-w1 → After-walk_start-t
from-deleted c = from-counts c.before.before.before

abbrev from-deleted2 : After-write_deleted-w2 → After-walk_start-t
from-deleted2 c = from-deleted c.before.before.before

abbrev from-updates : After-write_updates-w3 → After-walk_start-t
from-updates c = from-deleted2 c.before.before.before

abbrev from-updates2 : After-write_updates → After-walk_start-t
from-updates2 c = from-updates c.before.before.before

-- ---- the area after each step
after-counts : (c : After-put_counts) → let q = from-counts c in Left q c.put_counts.new.out 3 (deleted₁ q ++ (deleted₂ q ++ (updated₁ q ++ updated₂ q)))
after-counts c =
    let q = from-counts c in
    let s = q.before.before in
    lays_more (lays-start s.args.out.now 0 (delta q)) _ 3 (counts q) (deleted₁ q ++ (deleted₂ q ++ (updated₁ q ++ updated₂ q)))
    (delta-parts s.args.base.now s.args.target.now s.args.nb s.args.nt q.walk_start-b.result q.walk_start-t.result s.requires.0 s.requires.1 q.walk_start-b.ensures q.walk_start-t.ensures)
    (c.put_counts.ensures ∙ ap (λ (k : ℕ). lay_at 0 (pos k ∷ pos s.args.nt ∷ pos 0 ∷ []) s.args.out.now) s.requires.3) refl

after-deleted : (c : After-write_deleted-w1) → let q = from-deleted c in Left q c.write_deleted-w1.new.out c.write_deleted-w1.result (deleted₂ q ++ (updated₁ q ++ updated₂ q))
after-deleted c =
    let q = from-deleted c in
    lays_more (after-counts c.before.before.before) _ _ (deleted₁ q) (deleted₂ q ++ (updated₁ q ++ updated₂ q)) refl c.write_deleted-w1.ensures.out_after c.write_deleted-w1.ensures.value

after-deleted2 : (c : After-write_deleted-w2) → let q = from-deleted2 c in Left q c.write_deleted-w2.new.out c.write_deleted-w2.result (updated₁ q ++ updated₂ q)
after-deleted2 c =
    let q = from-deleted2 c in
    lays_more (after-deleted c.before.before.before) _ _ (deleted₂ q) (updated₁ q ++ updated₂ q) refl c.write_deleted-w2.ensures.out_after c.write_deleted-w2.ensures.value

after-updates : (c : After-write_updates-w3) → let q = from-updates c in Left q c.write_updates-w3.new.out c.write_updates-w3.result (updated₂ q)
after-updates c =
    let q = from-updates c in
    lays_more (after-deleted2 c.before.before.before) _ _ (updated₁ q) (updated₂ q) refl c.write_updates-w3.ensures.out_after c.write_updates-w3.ensures.value

pub put_counts-requires : goal.put_counts-requires
put_counts-requires c =
    let n = length-delta_ints [] (delta_from (items c.args.base.now) (items c.args.target.now)) in
    (omega (arith, c.requires.5), omega (arith, c.requires.4, c.requires.0.count-is, c.requires.0.shape.few), omega (arith, c.requires.1.count-is, c.requires.1.shape.few), omega arith)

pub write_deleted-w1-requires : goal.write_deleted-w1-requires
write_deleted-w1-requires c =
    let q = from-counts c.before.before in
    let s = q.before.before in
    (s.requires.0, s.requires.1, omega (arith, q.walk_start-b.ensures.within, s.requires.0.count-is), omega arith, lays-room (after-counts c.before.before) (deleted₁ q) (deleted₂ q ++ (updated₁ q ++ updated₂ q)) refl (omega (arith, s.requires.5)))

pub write_deleted-w2-requires : goal.write_deleted-w2-requires
write_deleted-w2-requires c =
    let q = from-deleted c.before.before in
    let s = q.before.before in
    (s.requires.0, s.requires.1, omega arith, omega (arith, q.walk_start-b.ensures.within, s.requires.0.count-is), lays-room (after-deleted c.before.before) (deleted₂ q) (updated₁ q ++ updated₂ q) refl (omega (arith, s.requires.5)))

pub write_updates-w3-requires : goal.write_updates-w3-requires
write_updates-w3-requires c =
    let q = from-deleted2 c.before.before in
    let s = q.before.before in
    (s.requires.0, s.requires.1, omega (arith, q.walk_start-t.ensures.within, s.requires.1.count-is), omega arith, s.requires.2, lays-room (after-deleted2 c.before.before) (updated₁ q) (updated₂ q) refl (omega (arith, s.requires.5)))

pub write_updates-requires : goal.write_updates-requires
write_updates-requires c =
    let q = from-updates c.before.before in
    let s = q.before.before in
    (s.requires.0, s.requires.1, omega arith, omega (arith, q.walk_start-t.ensures.within, s.requires.1.count-is), s.requires.2, lays-room (after-updates c.before.before) (updated₂ q) [] (sym (append-nil (updated₂ q))) (omega (arith, s.requires.5)))

-- all parts are laid
whole : (c : After-write_updates) → Left (from-updates2 c) c.write_updates.new.out c.write_updates.result []
whole c =
    let q = from-updates2 c in
    lays_more (after-updates c.before.before.before) _ _ (updated₂ q) [] (sym (append-nil (updated₂ q))) c.write_updates.ensures.out_after c.write_updates.ensures.value

pub returns : goal.returns
returns c = (lays-end (whole c.before) refl).1
