-- `checked::next_of` meets its contract: by the keys of the next item and the next update. Assumes nothing.
use mathlib.Core.Path.{◌≡◌, sym, ◌∙◌}
use native.Mathlib.Omega.{arith}
use borrow.Author.Tests.{ltb-true, ltb-false}
use lib.Dec.{ltb}
use mir.Facts.{to_z-of_z}
use Rattle.definitions.specs.Ints.{bits}
use Rattle.definitions.specs.Tables.{key_at}
use Rattle.definitions.specs.Deltas.{update_key}
use Rattle.applying.proofs.Turns.{ahead_none, ahead-some}
use Rattle.std.proofs.Common.{w32}
use Rattle.applying.proofs.checked.next_of.Goals as goal
use Rattle.applying.proofs.checked.next_of.Goals.{After-unsigned_less}

-- the two keys are compared in unsigned order
compared : (c : After-unsigned_less) → let s = c.args in c.unsigned_less.result ≡ ltb (key_at s.base.now s.s.item) (update_key s.delta.now s.s.update)
compared c =
    c.unsigned_less.ensures
    ∙ rw (to_z-of_z {w = w32} (record { sfits = c.key_at-own.type_inv }), to_z-of_z {w = w32} (record { sfits = c.update_key-key.type_inv }), c.key_at-own.ensures, c.update_key-key.ensures)

pub returns-then-s-eq0 : goal.returns-then-s-eq0
returns-then-s-eq0 c =
    (omega (arith, c.requires.3, c.if-s-eq0.true), ahead_none _ _ _ _ (omega (arith, c.if-s-eq0.true)))

pub returns-then-unsigned_less : goal.returns-then-unsigned_less
returns-then-unsigned_less c =
    (omega (arith, c.if-to-s.false), ahead-some _ _ _ _ (omega (arith, c.if-s-eq0.false)) (ltb-true _ _ (sym (compared c.before) ∙ c.if-unsigned_less.true)))

pub returns : goal.returns
unfolding bits
returns c =
    let s = c.args in
    let m = ltb-false (key_at s.base.now s.s.item) (update_key s.delta.now s.s.update) (sym (compared c.before.before) ∙ c.if-unsigned_less.false) in
    (omega (arith, c.if-s-eq0.false), λ l. omega (arith, c.if-own-key.false, m, c.key_at-own.ensures, c.update_key-key.ensures))
