-- `checked::is_as_long` meets its contract. Assumes nothing.
use Prim.Native.Nat.{ℕ, ◌<◌}
use mathlib.Core.Path.{◌≡◌, sym, ap, ◌∙◌}
use mathlib.Core.List.{[]}
use mathlib.Core.Option.{some}
use lib.Dec.{eqb}
use lib.ListN.{length}
use mir.Syntax.{w32}
use mir.Val.{to_z, of_z}
use mir.Facts.{to_z-of_z}
use Rattle.definitions.specs.Ints.{bits}
use Rattle.definitions.specs.Tables.{items, values_at, find, is_some}
use Rattle.definitions.specs.Deltas.{update_key, update_at}
use Rattle.laws.specs.DeltaRestores.{length-values}
use Rattle.apply_judging.proofs.Places.{found_at, some-agrees}
use Rattle.apply_judging.proofs.checked.is_as_long.Goals as goal
use Rattle.apply_judging.proofs.checked.is_as_long.Goals.{After-has_key, After-update_key, Else-not-has_key}

-- the update's key as it is passed on
key-is : (c : After-update_key) → bits (to_z w32 (of_z w32 c.update_key.result)) ≡ update_key c.args.delta.now c.args.p
key-is c = ap bits (to_z-of_z {w = w32} (record { sfits = c.update_key.type_inv })) ∙ c.update_key.ensures

-- whether the base has it
said : (c : After-has_key) → let s = c.before.before in c.has_key.result ≡ is_some (find (update_key s.args.delta.now s.args.p) (items s.args.base.now))
said c =
    let s = c in
    c.has_key.ensures ∙ ap (λ (k : ℕ). is_some (find k (items s.args.base.now))) (key-is c.before)

found : (c : Else-not-has_key) → let s = c.before.before.before in (s.args.b < s.args.nb) × (find (update_key s.args.delta.now s.args.p) (items s.args.base.now) ≡ some (values_at s.args.base.now s.args.b))
found c =
    let s = c in
    found_at s.args.base.now s.args.nb _ s.args.b s.requires.0 s.requires.2 (sym (said c.before) ∙ c.if-not-has_key.false)

pub data_at-requires : goal.data_at-requires
data_at-requires c = (c.requires.0, (found c).0)

pub returns-else-not-has_key : goal.returns-else-not-has_key
returns-else-not-has_key c =
    let s = c.args in
    ap (λ v. eqb (length v) c.update_size.result) c.data_at.ensures
    ∙ some-agrees (find (update_key s.delta.now s.p) (items s.base.now)) (update_at [] s.delta.now s.p).values _ _ (found (goal.at.returns-else-not-has_key c).Else-not-has_key).1 (c.update_size.ensures.0 ∙ sym (length-values [] s.delta.now s.p c.requires.1))
