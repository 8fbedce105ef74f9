-- `checked::put_update` meets its contract. Assumes nothing.
use mathlib.Core.Path.{◌≡◌, refl, sym, ap, ap₂, ◌∙◌, subst}
use mathlib.Core.List.{[], ◌∷◌}
use lib.ListN.{length}
use mir.Syntax.{w32}
use mir.Val.{to_z, of_z}
use mir.Facts.{to_z-of_z}
use Rattle.definitions.specs.Ints.{bits}
use Rattle.definitions.specs.Tables.{Item}
use Rattle.definitions.specs.Deltas.{update_key, update_at}
use Rattle.laws.specs.ApplyFound.{item}
use Rattle.laws.specs.ApplyWriting.{Room, wrote}
use Rattle.applying.proofs.Turns.{update-room, update-turn}
use Rattle.applying.proofs.checked.put_update.Goals as goal
use Rattle.applying.proofs.checked.put_update.Goals.{After-differences-more, After-update_key-key, Start}

-- the update's key as it is passed on
key-is : (c : After-update_key-key) → bits (to_z w32 (of_z w32 c.update_key-key.result)) ≡ update_key c.args.delta.now c.args.s.update
key-is c = ap bits (to_z-of_z {w = w32} (record { sfits = c.update_key-key.type_inv })) ∙ c.update_key-key.ensures

-- the item that is written
item-is : (c : After-differences-more) → let s = c.args in item (bits (to_z w32 (of_z w32 c.update_key-key.result))) c.differences-more.result.now ≡ update_at [] s.delta.now s.s.update
item-is c = ap₂ item (key-is c.before) c.differences-more.ensures

room : (s : Start) → Room s.args.n (length s.args.out.now) s.args.s.items s.args.s.at (update_at [] s.args.delta.now s.args.s.update ∷ [])
room s = update-room s.args.out.now s.requires.1 s.requires.2 s.requires.3

pub put_sums-requires : goal.put_sums-requires
put_sums-requires c =
    (refl, subst (λ (x : Item). Room c.args.n (length c.args.out.now) c.args.s.items c.args.s.at (x ∷ [])) (sym (item-is c.before)) (room c.before.before.before))

pub returns : goal.returns
returns c =
    update-turn c.args.out.now c.requires.1 c.requires.2 c.requires.3 _ _ _ c.next_update.ensures (ap length c.differences-more.ensures)
    (subst (λ (x : Item). c.put_sums.new.out ≡ wrote c.args.n c.args.out.now c.args.s.items c.args.s.at (x ∷ [])) (item-is c.before.before.before.before.before.before.before) c.put_sums.ensures)
