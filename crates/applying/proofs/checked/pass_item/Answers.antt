-- `checked::pass_item` meets its contract: by whether the item's key is deleted. Assumes nothing.
use Prim.Native.Nat.{ℕ}
use mathlib.Core.Path.{◌≡◌, sym, ap, ap₂, ◌∙◌, subst}
use mathlib.Core.Bool.{false}
use mathlib.Core.List.{[], ◌∷◌}
use lib.ListN.{length}
use mir.Syntax.{w32}
use mir.Val.{to_z, of_z}
use mir.Facts.{to_z-of_z}
use Rattle.definitions.specs.Ints.{bits}
use Rattle.definitions.specs.Tables.{Item, key_at, item_at}
use Rattle.definitions.specs.DeltaReading.{elem}
use Rattle.laws.specs.ApplyFound.{item}
use Rattle.laws.specs.ApplyWriting.{Room, wrote}
use Rattle.apply_judging.specs.Judging.{deleted_of}
use Rattle.applying.proofs.Turns.{item-skipped, item-copied, item_room}
use Rattle.applying.proofs.checked.pass_item.Goals as goal
use Rattle.applying.proofs.checked.pass_item.Goals.{After-data_at-values, After-is_deleted, After-key_at-key, Else-is_deleted}

-- the item's key as it is passed on
key-is : (c : After-key_at-key) → bits (to_z w32 (of_z w32 c.key_at-key.result)) ≡ key_at c.args.base.now c.args.s.item
key-is c = ap bits (to_z-of_z {w = w32} (record { sfits = c.key_at-key.type_inv })) ∙ c.key_at-key.ensures

-- whether it is deleted
said : (c : After-is_deleted) → let s = c.before.before.before in c.is_deleted.result ≡ elem (key_at s.args.base.now s.args.s.item) (deleted_of s.args.delta.now s.args.deleted)
said c =
    let s = c in
    c.is_deleted.ensures ∙ ap (λ (k : ℕ). elem k (deleted_of s.args.delta.now s.args.deleted)) (key-is c.before.before)

-- if it is not, the item that is written, and its room
kept : (c : Else-is_deleted) → elem (key_at c.args.base.now c.args.s.item) (deleted_of c.args.delta.now c.args.deleted) ≡ false
kept c = sym (said c.before) ∙ c.if-is_deleted.false

item-is : (c : After-data_at-values) → item (bits (to_z w32 (of_z w32 c.key_at-key.result))) c.data_at-values.result.now ≡ item_at c.args.base.now c.args.s.item
item-is c = ap₂ item (key-is c.before.before.before.before) c.data_at-values.ensures

room : (c : Else-is_deleted) → let s = c.before.before.before.before in Room s.args.n (length s.args.out.now) s.args.s.items s.args.s.at (item_at s.args.base.now s.args.s.item ∷ [])
room c =
    let s = c in
    item_room s.args.out.now s.requires.2 s.requires.3 s.requires.4 (kept c)

pub returns-then-is_deleted : goal.returns-then-is_deleted
returns-then-is_deleted c =
    item-skipped c.args.out.now c.requires.2 c.requires.3 c.requires.4 _ c.deleted_near-hint.ensures.few (sym (said c.before.before) ∙ c.if-is_deleted.true)

pub put_item-requires : goal.put_item-requires
put_item-requires c =
    subst (λ (x : Item). Room c.args.n (length c.args.out.now) c.args.s.items c.args.s.at (x ∷ [])) (sym (item-is c.before)) (room c.before.before)

pub returns : goal.returns
returns c =
    item-copied c.args.out.now c.requires.2 c.requires.3 c.requires.4 _ _ _ c.deleted_near-hint.ensures.few (kept c.before.before.before.before.before.before.before) (ap length c.data_at-values.ensures)
    (subst (λ (x : Item). c.put_item.new.out ≡ wrote c.args.n c.args.out.now c.args.s.items c.args.s.at (x ∷ [])) (item-is c.before.before.before.before.before.before) c.put_item.ensures)
