-- `checked::write_update` meets its contract: the head, then the differences, make the update. Assumes nothing.
use Prim.Native.Nat.{ℕ, ◌+◌, ◌<◌, ◌≤◌}
use mathlib.Core.Path.{◌≡◌, sym, ap, ap₂, ◌∙◌}
use native.Mathlib.Omega.{arith}
use lib.IntN.{ℤ}
use lib.ListN.{length}
use mir.Syntax.{w32}
use mir.Val.{to_z, of_z}
use mir.Facts.{to_z-of_z}
use Rattle.definitions.specs.Ints.{bits}
use mathlib.Core.List.{List}
use mathlib.Core.Option.{Option, some}
use Rattle.definitions.specs.Ints.{wrapping_sub}
use Rattle.definitions.specs.Areas.{lay_at}
use Rattle.definitions.specs.Tables.{items, item_at, key_at, values_at, find, is_some}
use Rattle.definitions.specs.DeltaMaking.{zip_with, differences}
use Rattle.ints.specs.Copies.{copied}
use Rattle.table.specs.Finding.{found_at}
use Rattle.delta_making.proofs.Updates.{none-differs, some-differs, as_long, length-change, change-laid, values-short}
use Rattle.delta_making.proofs.checked.write_update.Goals as goal
use Rattle.delta_making.proofs.checked.write_update.Goals.{After-data_at-to, After-has_key, After-key_at-key, Start, Then-has_key}

-- the item's key as it is passed
key-is : (c : After-key_at-key) → bits (to_z w32 (of_z w32 c.key_at-key.result)) ≡ key_at c.args.target.now c.args.i
key-is c = ap bits (to_z-of_z {w = w32} (record { sfits = c.key_at-key.type_inv })) ∙ c.key_at-key.ensures

-- whether the base has it
said : (c : After-has_key) → c.has_key.result ≡ is_some (find (key_at c.args.target.now c.args.i) (items c.args.base.now))
said c =
    c.has_key.ensures ∙ ap (λ (j : ℕ). is_some (find j (items c.args.base.now))) (key-is c.before.before.before.before.before)

found : (c : Then-has_key) → let s = c.before.before.before.before.before.before.before in (s.args.p < s.args.nb) × (find (key_at s.args.target.now s.args.i) (items s.args.base.now) ≡ some (values_at s.args.base.now s.args.p))
found c =
    let s = c in
    found_at s.args.base.now s.args.nb _ s.args.p s.requires.0 s.requires.3 (sym (said c.before) ∙ c.if-has_key.true)

-- the base's data of the item
abbrev wanted : Start → Option (List ℤ)
wanted s = find (key_at s.args.target.now s.args.i) (items s.args.base.now)

-- how many ints are written, and how long the data is
room : (s : Start) → s.args.at + (3 + length (values_at s.args.target.now s.args.i)) ≤ length s.args.out.now
room s =
    omega (arith, s.requires.5, length-change (items s.args.base.now) (item_at s.args.target.now s.args.i) s.requires.4)

short : (s : Start) → length (values_at s.args.target.now s.args.i) < 16384
short s = values-short s.args.target.now s.args.nt s.args.i s.requires.1 s.requires.2

data-long : (c : After-data_at-to) → length c.data_at-to.result.now ≡ length (values_at c.args.target.now c.args.i)
data-long c = ap length c.data_at-to.ensures

pub write_head-requires : goal.write_head-requires
write_head-requires c =
    (omega (arith, room c.before.before.before), omega (arith, data-long c.before, short c.before.before.before))

pub data_at-from-requires : goal.data_at-from-requires
data_at-from-requires c = (c.requires.0, (found c).0)

pub sub_into-requires : goal.sub_into-requires
sub_into-requires c =
    let e = as_long (wanted c.before.before.before.before.before.before.before.before.before) (values_at c.args.target.now c.args.i) _ (found c.before.before).1 c.requires.4 in
    (omega (arith, data-long c.before.before.before.before.before.before.before, e, ap length c.data_at-from.ensures), omega (arith, room c.before.before.before.before.before.before.before.before.before, data-long c.before.before.before.before.before.before.before, c.write_head.auto.out))

pub returns-then-has_key : goal.returns-then-has_key
returns-then-has_key c =
    let it =
    let v = values_at c.args.target.now c.args.i in
    change-laid (items c.args.base.now) (item_at c.args.target.now c.args.i) c.requires.4 c.args.out.now c.write_head.new.out c.sub_into.new.out c.args.at _ _ (key-is c.before.before.before.before.before.before.before.before.before.before) (data-long c.before.before.before.before.before.before.before.before.before) c.write_head.ensures
    (c.sub_into.ensures
    ∙ ap (λ (l : List ℤ). lay_at (c.args.at + 3) l c.write_head.new.out) (ap₂ (zip_with wrapping_sub) c.data_at-to.ensures c.data_at-from.ensures ∙ some-differs (wanted c.before.before.before.before.before.before.before.before.before.before.before) v _ (found c.before.before.before.before).1)) in
    record { value = it.0; out_after = it.1 }

pub returns : goal.returns
returns c =
    let it =
    let v = values_at c.args.target.now c.args.i in
    let q = none-differs (wanted c.before.before.before.before.before.before.before.before.before.before) v (sym (said c.before.before.before.before) ∙ c.if-has_key.false) in
    change-laid (items c.args.base.now) (item_at c.args.target.now c.args.i) c.requires.4 c.args.out.now c.write_head.new.out c.copy_into.new.out c.args.at _ _ (key-is c.before.before.before.before.before.before.before.before.before) (data-long c.before.before.before.before.before.before.before.before) c.write_head.ensures
    (copied c.write_head.new.out (c.args.at + 3) _ (differences (wanted c.before.before.before.before.before.before.before.before.before.before) v) _ _ c.copy_into.ensures (c.data_at-to.ensures ∙ sym q) (omega (arith, ap length q, room c.before.before.before.before.before.before.before.before.before.before, c.write_head.auto.out))) in
    record { value = it.0; out_after = it.1 }
