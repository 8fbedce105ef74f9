use Rattle.definitions.specs.Ints.{signed_less}
use Rattle.definitions.specs.Storage.{StoredSnap}
use Rattle.store_area.proofs.Steps.{place-zero, place-turn, here, newer-start, older-here, newer-turn, none-older}
use Rattle.store_area.specs.Held.{snaps_in, snap_at}
use Rattle.store_area.proofs.Places.{Entry}
use mathlib.Core.List.{List}
use mathlib.Core.Path.{◌≡◌, sym, ap, ◌∙◌}
use Prim.Native.Nat.{ℕ}
use lib.ListN.{take}
use mir.Facts.{to_z-of_z}
use mir.Syntax.{w32}
use native.Mathlib.Omega.{arith}
use borrow.Author.Rules.{rules}
use Rattle.store_area.proofs.checked.count_newer.Goals as goal
use Rattle.store_area.proofs.checked.count_newer.Lts as lts
use Rattle.store_area.proofs.checked.count_newer.Tie as tie
use Rattle.store_area.proofs.checked.count_newer.Reads as reads

abbrev After-is_before : Type 0
After-is_before = lts.After-is_before tie.the-claims reads.Pre reads.Post goal.the-invariant-loop-i goal.the-decreases-loop-i

abbrev In-loop-i : Type 0
In-loop-i = lts.In-loop tie.the-claims reads.Pre reads.Post goal.the-invariant-loop-i goal.the-decreases-loop-i

abbrev Start : Type 0
Start = lts.Start tie.the-claims reads.Pre reads.Post goal.the-invariant-loop-i goal.the-decreases-loop-i

-- the tables
abbrev L : Start → List StoredSnap
L s = snaps_in s.args.count s.args.area.now

-- the i-th table is here
stands : (c : In-loop-i) → let l = c.before in Entry l.args.area.now l.loop-i.p (snap_at (L c.before.before) l.loop-i.i)
stands c =
    let l = c in
    let s = c in
    here s.args.area.now s.args.count s.requires l.loop-i.i l.loop-i.p (omega arith) l.loop-i.invariant.0

-- its tick is compared
compared : (c : After-is_before) → let l = c in let s = c in
    c.is_before.result ≡ signed_less (snap_at (L c.before.before.before.before) l.loop-i.i).tick s.args.tick.0
compared c =
    rw (to_z-of_z {w = w32} (record { sfits = c.held-1.given }), (stands c.before.before).tick_is) at c.is_before.ensures

pub loop-i-init : goal.loop-i-init
loop-i-init c = (place-zero (L c), newer-start _ _)

pub offset_bounds-area-p : goal.offset_bounds-area-p
offset_bounds-area-p c = let e = stands c in omega (arith, e.room)

pub bounds-area-p : goal.bounds-area-p
bounds-area-p c = let e = stands c in omega (arith, e.room)

pub returns-then-is_before : goal.returns-then-is_before
returns-then-is_before c =
    let l = c in
    let s = c in
    (search rules, older-here s.args.tick.0 (L c.before.before.before.before.before) l.loop-i.i l.loop-i.invariant.1 (omega (arith, s.requires.many)) (sym (compared c.before) ∙ c.if-is_before.true))

pub overflow_add-p : goal.overflow_add-p
overflow_add-p c = let e = stands c.before.before.before in omega (arith, e.room)

pub nat_at-requires : goal.nat_at-requires
nat_at-requires c = let e = stands c.before.before.before in omega (arith, e.room)

pub overflow_add-p-in-loop-i : goal.overflow_add-p-in-loop-i
overflow_add-p-in-loop-i c =
    let e = stands c.before.before.before.before in omega (arith, e.short, e.size_is, c.nat_at.ensures.0)

pub overflow_add-p-in-loop-i-2 : goal.overflow_add-p-in-loop-i-2
overflow_add-p-in-loop-i-2 c =
    let e = stands c.before.before.before.before in omega (arith, e.room, e.size_is, c.nat_at.ensures.0)

pub loop-i-preserved : goal.loop-i-preserved
loop-i-preserved c =
    let l = c in
    let s = c in (
      place-turn s.args.area.now s.args.count s.requires l.loop-i.i l.loop-i.p _ (omega arith) l.loop-i.invariant.0 c.nat_at.ensures.0,
      newer-turn s.args.tick.0 (L c.before.before.before.before.before.before) l.loop-i.i l.loop-i.invariant.1 (omega (arith, s.requires.many)) (sym (compared c.before.before) ∙ c.if-is_before.false),
    )

pub returns : goal.returns
returns c =
    let s = c in
    let l = L c.before.before in
    let e : c.loop-i.i ≡ s.args.count = omega arith in
    (search rules, none-older s.args.tick.0 l c.loop-i.i c.loop-i.invariant.1 (omega (arith, s.requires.many)) ∙ ap (λ (k : ℕ). take k l) e)
