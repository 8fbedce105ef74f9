-- `checked::make_delta` meets its contract: by which table is the base. Assumes nothing.
use Prim.Native.Nat.{ℕ, ◌-◌}
use Rattle.definitions.specs.Storage as Store
use Rattle.definitions.specs.Tables.{Table, items, count}
use Rattle.storage.proofs.Additions.{empty-table, whole-table, by-base}
use Rattle.storage.proofs.Forms.{chosen-empty, chosen-itself, chosen-oldest}
use Rattle.storage.specs.States.{delta_of}
use Rattle.store_area.specs.Held.{snaps_in, snap_at}
use Rattle.store_area.specs.Laid.{sound-at}
use Rattle.table.specs.Held.{Held}
use lib.IntN.{ℤ, pos}
use mathlib.Core.List.{List, [], ◌∷◌}
use mathlib.Core.Path.{◌≡◌, refl, sym, ap, ◌∙◌}
use native.Mathlib.Omega.{arith}
use Rattle.storage.proofs.checked.make_delta.Goals as goal

-- a table that is held
itself : {a : List ℤ} {n : ℕ} → Held a n → Held a (count a)
itself h = record { count-is = refl; shape = h.shape }

pub make-requires : goal.make-requires
make-requires c = (empty-table.0, c.requires.1)

pub returns-in_default : goal.returns-in_default
returns-in_default c =
    let L : List Store.StoredSnap =
    snaps_in c.args.s.count c.args.area.now in
    let new : ℤ → Store.StoredSnap =
    λ at. record { tick = at; snap = items c.args.table.now } in
    let Base : ℤ → Table =
    λ at. (Store.chosen_base (delta_of c.args.s) (new at) (L)).snap in
    let s = c in
    let m = c.make in
    let n = c.in_default.is in
    let e : (at : ℤ) → items (pos 0 ∷ pos 0 ∷ []) ≡ Base at =
    λ at. empty-table.1 ∙ ap (λ (y : Store.StoredSnap). y.snap) (sym (chosen-empty s.args.s (new at) (L) n)) in
    let t = items s.args.table.now in record { table_value = λ at. (by-base _ _ _ _ _ t m.result (e at) (m.ensures.target_value, m.ensures.result_value)).0; result_value = λ at. (by-base _ _ _ _ _ t m.result (e at) (m.ensures.target_value, m.ensures.result_value)).1 }

pub make-requires-then-s-eq0 : goal.make-requires-then-s-eq0
make-requires-then-s-eq0 c = (itself c.requires.1, c.requires.1)

pub returns-then-s-eq0 : goal.returns-then-s-eq0
returns-then-s-eq0 c =
    let L : List Store.StoredSnap =
    snaps_in c.args.s.count c.args.area.now in
    let new : ℤ → Store.StoredSnap =
    λ at. record { tick = at; snap = items c.args.table.now } in
    let Base : ℤ → Table =
    λ at. (Store.chosen_base (delta_of c.args.s) (new at) (L)).snap in
    let s = c in
    let m = c.make-then-s-eq0 in
    let n = c.in-Some.is in
    let z = c.if-s-eq0.true in
    let e : (at : ℤ) → items s.args.table.now ≡ Base at =
    λ at. ap (λ (y : Store.StoredSnap). y.snap) (sym (chosen-itself s.args.s (new at) (L) s.args.s.count n s.requires.0.many z)) in
    let t = items s.args.table.now in record { table_value = λ at. (by-base _ _ _ _ _ t m.result (e at) (m.ensures.target_value, m.ensures.result_value)).0; result_value = λ at. (by-base _ _ _ _ _ t m.result (e at) (m.ensures.target_value, m.ensures.result_value)).1 }

pub make-requires-2 : goal.make-requires-2
make-requires-2 c =
    let L : List Store.StoredSnap =
    snaps_in c.args.s.count c.args.area.now in
    let Old : Table =
    (snap_at (L) (c.args.s.count - 1)).snap in
    let based : let a = c.table_at-base.result.now in Held a (count a) × (items a ≡ Old) =
    let s = c in
    let h = s.requires.0 in
    let k = sound-at (L) (s.args.s.count - 1) h.stands.sounds (omega (arith, h.many)) in
    whole-table c.table_at-base.result.now (Old) k c.table_at-base.ensures in
    ((based).0, c.requires.1)

pub returns : goal.returns
returns c =
    let L : List Store.StoredSnap =
    snaps_in c.args.s.count c.args.area.now in
    let new : ℤ → Store.StoredSnap =
    λ at. record { tick = at; snap = items c.args.table.now } in
    let Base : ℤ → Table =
    λ at. (Store.chosen_base (delta_of c.args.s) (new at) (L)).snap in
    let Old : Table =
    (snap_at (L) (c.args.s.count - 1)).snap in
    let based : let a = c.table_at-base.result.now in Held a (count a) × (items a ≡ Old) =
    let s = c in
    let h = s.requires.0 in
    let k = sound-at (L) (s.args.s.count - 1) h.stands.sounds (omega (arith, h.many)) in
    whole-table c.table_at-base.result.now (Old) k c.table_at-base.ensures in
    let s = c in
    let m = c.make-2 in
    let d = c in
    let n = c.in-Some.is in
    let z = c.if-s-eq0.false in
    let e : (at : ℤ) → items d.table_at-base.result.now ≡ Base at =
    λ at. (based).1
    ∙ ap (λ (y : Store.StoredSnap). y.snap) (sym (chosen-oldest s.args.s (new at) (L) s.args.s.count n s.requires.0.many z)) in
    let t = items s.args.table.now in record { table_value = λ at. (by-base _ _ _ _ _ t m.result (e at) (m.ensures.target_value, m.ensures.result_value)).0; result_value = λ at. (by-base _ _ _ _ _ t m.result (e at) (m.ensures.target_value, m.ensures.result_value)).1 }
