-- `checked::place_from` meets its contract: the keys before the hint are less, or the search begins anew. Assumes nothing.
use Prim.Native.Nat.{◌-◌}
use mathlib.Core.Path.{◌≡◌, sym, ◌∙◌}
use native.Mathlib.Omega.{arith}
use borrow.Author.Tests.{ltb-true}
use lib.Dec.{ltb}
use mir.Facts.{to_z-of_z}
use Rattle.definitions.specs.Ints.{bits}
use Rattle.definitions.specs.Tables.{key_at}
use Rattle.apply_judging.proofs.Places.{keys-under}
use Rattle.std.proofs.Common.{w32}
use Rattle.apply_judging.proofs.checked.place_from.Goals as goal
use Rattle.apply_judging.proofs.checked.place_from.Goals.{After-unsigned_less}

-- the last key before the hint, and the one that is searched
compared : (c : After-unsigned_less) → c.unsigned_less.result ≡ ltb (key_at c.args.area.now (c.args.hint - 1)) (bits c.args.key)
compared c =
    c.unsigned_less.ensures
    ∙ rw (to_z-of_z {w = w32} (record { sfits = c.key_at.type_inv }), to_z-of_z {w = w32} c.ranges.key, c.key_at.ensures)

pub next_place-requires : goal.next_place-requires
next_place-requires c =
    (c.requires.0, c.requires.1, rw (to_z-of_z {w = w32} c.ranges.key) (keys-under c.args.area.now c.args.n _ c.args.hint c.requires.0 (omega (arith, c.if-hint-gt0.true)) c.requires.1 (ltb-true _ _ (sym (compared c.before) ∙ c.if-unsigned_less.true))))
