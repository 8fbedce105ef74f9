-- `checked::add_update` meets its contract. Assumes nothing.
use mathlib.Core.Path.{◌≡◌, sym, ap, ap₂, ◌∙◌, subst}
use mathlib.Core.List.{List, [], ◌∷◌}
use native.Mathlib.Omega.{arith}
use borrow.Author.Tests.{eq-eqb}
use lib.IntN.{ℤ}
use lib.ListN.{length}
use mir.Syntax.{w32}
use mir.Val.{to_z, of_z}
use mir.Facts.{to_z-of_z}
use Rattle.definitions.specs.Ints.{bits, wrapping_add}
use Rattle.definitions.specs.Tables.{Item, values_at}
use Rattle.definitions.specs.Deltas.{update_key, update_at}
use Rattle.definitions.specs.DeltaMaking.{zip_with}
use Rattle.laws.specs.ZipLaws.{length-zip_with}
use Rattle.laws.specs.ApplyFound.{item}
use Rattle.laws.specs.ApplyWriting.{Room, wrote}
use Rattle.applying.proofs.Putting.{RoomOne, room-one}
use Rattle.applying.proofs.Turns.{update_here, as_long, sums-room, sums-turn}
use Rattle.applying.proofs.checked.add_update.Goals as goal
use Rattle.applying.proofs.checked.add_update.Goals.{After-differences-more, After-update_key-key, Start}

-- the update's key as it is passed on
key-is : (c : After-update_key-key) → bits (to_z w32 (of_z w32 c.update_key-key.result)) ≡ update_key c.args.delta.now c.args.s.update
key-is c = ap bits (to_z-of_z {w = w32} (record { sfits = c.update_key-key.type_inv })) ∙ c.update_key-key.ensures

-- the sums
abbrev sums : Start → List ℤ
sums s = zip_with wrapping_add (values_at s.args.base.now s.args.s.item) (update_at [] s.args.delta.now s.args.s.update).values

-- the item that is written
item-is : (c : After-differences-more) → item (bits (to_z w32 (of_z w32 c.update_key-key.result))) (zip_with wrapping_add c.data_at-old.result.now c.differences-more.result.now) ≡ item (update_key c.args.delta.now c.args.s.update) (sums c.before.before.before)
item-is c = ap₂ item (key-is c.before.before) (ap₂ (zip_with wrapping_add) c.data_at-old.ensures c.differences-more.ensures)

room : (s : Start) → Room s.args.n (length s.args.out.now) s.args.s.items s.args.s.at (item (update_key s.args.delta.now s.args.s.update) (sums s) ∷ [])
room s = sums-room s.args.out.now s.requires.1 s.requires.3 s.requires.0 s.requires.2 s.requires.4

-- the two are of one length
same : (s : Start) → length (values_at s.args.base.now s.args.s.item) ≡ length (update_at [] s.args.delta.now s.args.s.update).values
same s = as_long s.args.out.now s.requires.1 s.requires.3 s.requires.0 s.requires.2 s.requires.4

one : (s : Start) → RoomOne s.args.n (length s.args.out.now) s.args.s.items s.args.s.at (length (values_at s.args.base.now s.args.s.item))
one s =
    let r = room-one _ _ _ _ (item (update_key s.args.delta.now s.args.s.update) (sums s)) (room s) in
    let e = length-zip_with wrapping_add (values_at s.args.base.now s.args.s.item) (update_at [] s.args.delta.now s.args.s.update).values (same s) in
    record { few = r.few; behind = r.behind; room = omega (arith, r.room); short = omega (arith, r.short) }

pub put_sums-requires : goal.put_sums-requires
put_sums-requires c =
    (eq-eqb _ _ (ap length c.data_at-old.ensures ∙ (same c.before.before.before.before ∙ sym (ap length c.differences-more.ensures))), subst (λ (x : Item). Room c.args.n (length c.args.out.now) c.args.s.items c.args.s.at (x ∷ [])) (sym (item-is c.before)) (room c.before.before.before.before))

pub next_update-requires : goal.next_update-requires
next_update-requires c = update_here c.args.out.now c.requires.1 c.requires.3

pub returns : goal.returns
returns c =
    sums-turn c.args.out.now c.requires.1 c.requires.3 c.requires.0 c.requires.2 c.requires.4 _ _ _ c.next_update.ensures (ap length c.data_at-old.ensures)
    (subst (λ (x : Item). c.put_sums.new.out ≡ wrote c.args.n c.args.out.now c.args.s.items c.args.s.at (x ∷ [])) (item-is c.before.before.before.before.before.before.before.before) c.put_sums.ensures)
