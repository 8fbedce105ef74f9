-- `checked::add` meets its contract: one lemma for each refusal, and one for the added item. Assumes nothing.
use mathlib.Core.Path.{◌≡◌, sym, ap, ◌∙◌, subst}
use Prim.Native.Nat.{ℕ}
use native.Mathlib.Omega.{arith}
use lib.ListN.{length}
use mir.Syntax.{w32}
use mir.Val.{to_z, of_z}
use mir.Facts.{to_z-of_z}
use Rattle.definitions.specs.Ints.{bits}
use Rattle.definitions.specs.Areas.{lay}
use Rattle.definitions.specs.Tables.{written, insert, items}
use Rattle.laws.specs.TableFind.{Place}
use Rattle.table_adding.specs.Adding.{New, Room}
use Rattle.table_adding.proofs.Additions.{refused-14, refused-9, refused-8, refused-40, done}
use borrow.Author.Rules.{rules}
use Rattle.table_adding.proofs.checked.add.Goals as goal
use Rattle.table_adding.proofs.checked.add.Goals.{Start, After-place-p, Joined-else-p-n, else-p-n-via-then-p-n+else-key_at-key, else-p-n-via-else-p-n}

-- the key as the callees see it
key-is : (s : Start) → bits (to_z w32 (of_z w32 s.args.key)) ≡ bits s.args.key
key-is s = ap bits (to_z-of_z {w = w32} s.ranges.key)

place_is : (c : After-place-p) → let s = c.args in Place s.area.now (bits s.key) c.place-p.result
place_is c =
    let s = c in
    subst (λ (k : ℕ). Place s.args.area.now k c.place-p.result) (key-is (goal.at.After-place-p c).Start) c.place-p.ensures

-- no item has the key
new : (c : Joined-else-p-n) → let s = c.args in New s.area.now s.n (bits s.key) c.place-p.result
unfolding bits
new c =
    let s = c in
    record {
      held = s.requires.0;
      place = place_is (goal.at.Joined-else-p-n c).After-place-p;
      fresh = λ l e. elim c.else-p-n.branch [ else-p-n-via-then-p-n+else-key_at-key w ↦ w.if-key_at-key.false (w.key_at.ensures ∙ e) | else-p-n-via-else-p-n w ↦ omega arith ];
    }

pub returns-then-key_at-key : goal.returns-then-key_at-key
unfolding bits
returns-then-key_at-key c =
    let q = c in
    let s = c in
    refused-14 s.args.area.now (bits s.args.key) s.args.«data».now s.args.n q.place-p.result s.requires.0 (place_is (goal.at.returns-then-key_at-key c).After-place-p) c.if-p-n.true (sym c.key_at.ensures ∙ c.if-key_at-key.true)

pub returns-then-n-ge1024 : goal.returns-then-n-ge1024
returns-then-n-ge1024 c =
    let s = c.args in
    refused-9 s.area.now (bits s.key) s.«data».now _ _ (new (goal.at.returns-then-n-ge1024 c).Joined-else-p-n) (search rules)

pub returns-then-need-gt16384 : goal.returns-then-need-gt16384
returns-then-need-gt16384 c =
    let s = c in
    refused-8 s.args.area.now (bits s.args.key) s.args.«data».now _ _ (new (goal.at.returns-then-need-gt16384 c).Joined-else-p-n) (search rules) _ s.requires.1 (search rules)

pub returns-then-area-need : goal.returns-then-area-need
returns-then-area-need c =
    let s = c in
    refused-40 s.args.area.now (bits s.args.key) s.args.«data».now _ _ (new (goal.at.returns-then-area-need c).Joined-else-p-n) (search rules) _ s.requires.1 (search rules) (search rules)

pub write_item-requires : goal.write_item-requires
write_item-requires c =
    let s = c in
    subst (λ (k : ℕ). Room s.args.area.now s.args.n s.args.ints k c.place-p.result (length s.args.«data».now)) (sym (key-is (goal.at.write_item-requires c).Start))
    (record { new = new (goal.at.write_item-requires c).Joined-else-p-n; takes = s.requires.1; short = omega arith; fits = omega arith })

pub returns : goal.returns
returns c =
    let s = c in
    let a = s.args.area.now in
    let v = s.args.«data».now in
    done a (bits s.args.key) v _ _ (new (goal.at.returns c).Joined-else-p-n) (search rules) _ s.requires.1 (search rules) _ (search rules)
    (c.write_item.ensures ∙ ap (λ (k : ℕ). lay (written (insert (record { key = k; values = v }) (items a))) a) (key-is (goal.at.returns c).Start))
