-- `checked::is_as_long` meets its contract. Assumes nothing.
use Prim.Native.Nat.{ℕ, ◌<◌}
use mathlib.Core.Path.{◌≡◌, sym, ap, ap₂, ◌∙◌}
use mathlib.Core.Option.{some}
use lib.Dec.{eqb}
use lib.ListN.{length}
use mir.Syntax.{w32}
use mir.Val.{to_z, of_z}
use mir.Facts.{to_z-of_z}
use Rattle.definitions.specs.Ints.{bits}
use Rattle.definitions.specs.Tables.{items, key_at, values_at, find, is_some}
use Rattle.table.specs.Finding.{found_at}
use Rattle.delta_making.proofs.Updates.{some-agrees}
use Rattle.delta_making.proofs.checked.is_as_long.Goals as goal
use Rattle.delta_making.proofs.checked.is_as_long.Goals.{After-has_key, After-key_at, Else-not-has_key}

-- the item's key as it is passed
key-is : (c : After-key_at) → bits (to_z w32 (of_z w32 c.key_at.result)) ≡ key_at c.args.target.now c.args.i
key-is c = ap bits (to_z-of_z {w = w32} (record { sfits = c.key_at.type_inv })) ∙ c.key_at.ensures

-- whether the base has it
said : (c : After-has_key) → let s = c.before.before in c.has_key.result ≡ is_some (find (key_at s.args.target.now s.args.i) (items s.args.base.now))
said c =
    let s = c in
    c.has_key.ensures ∙ ap (λ (k : ℕ). is_some (find k (items s.args.base.now))) (key-is c.before)

found : (c : Else-not-has_key) → let s = c.before.before.before in (s.args.p < s.args.nb) × (find (key_at s.args.target.now s.args.i) (items s.args.base.now) ≡ some (values_at s.args.base.now s.args.p))
found c =
    let s = c in
    found_at s.args.base.now s.args.nb _ s.args.p s.requires.0 s.requires.3 (sym (said c.before) ∙ c.if-not-has_key.false)

pub data_at-requires : goal.data_at-requires
data_at-requires c = (c.requires.0, (found c).0)

pub returns-else-not-has_key : goal.returns-else-not-has_key
returns-else-not-has_key c =
    let s = c.args in
    ap₂ (λ v w. eqb (length v) (length w)) c.data_at.ensures c.data_at-else-not-has_key.ensures
    ∙ some-agrees (find (key_at s.target.now s.i) (items s.base.now)) (values_at s.target.now s.i) _ (found (goal.at.returns-else-not-has_key c).Else-not-has_key).1
