-- `checked::deleted_near` meets its contract: the keys before the hint are below the key, or the search begins anew. Assumes nothing.
use Prim.Native.Nat.{◌+◌, ◌-◌, ◌<◌}
use mathlib.Core.Path.{◌≡◌, sym, ◌∙◌}
use native.Mathlib.Omega.{arith}
use mir.Facts.{to_z-of_z}
use lib.IntN.{pos}
use lib.ListN.{get_or}
use Rattle.definitions.specs.Ints.{bits, signed_less}
use Rattle.definitions.specs.Deltas.{rank, deleted_at}
use Rattle.laws.specs.IntLaws.{less-ranks}
use Rattle.apply_judging.proofs.Places.{ranks-under}
use Rattle.std.proofs.Common.{w32}
use Rattle.apply_judging.proofs.checked.deleted_near.Goals as goal
use Rattle.apply_judging.proofs.checked.deleted_near.Goals.{Then-signed_less}

-- the last key before the hint is below the key in signed order
below : (c : Then-signed_less) → let s = c.before.before.before.before in rank (deleted_at s.args.delta.now (s.args.hint - 1)) < rank (bits s.args.key)
unfolding deleted_at
below c =
    let s = c in
    let g = c.signed_less-arg-1.given in
    let e : 2 + s.args.hint ≡ 3 + (s.args.hint - 1) = omega (arith, c.if-hint-gt0.true) in
    let q : signed_less (get_or s.args.delta.now (2 + s.args.hint) (pos 0)) s.args.key ≡ c.signed_less.result = sym (c.signed_less.ensures ∙ rw (to_z-of_z {w = w32} (record { sfits = g }), to_z-of_z {w = w32} s.ranges.key)) in
    rw e at (less-ranks (get_or s.args.delta.now (2 + s.args.hint) (pos 0)) s.args.key (record { sfits = g }) s.ranges.key (q ∙ c.if-signed_less.true))

pub deleted_from-requires : goal.deleted_from-requires
deleted_from-requires c =
    (c.requires.0.room, c.requires.1, ranks-under c.args.delta.now c.args.deleted c.args.hint _ c.requires.0 (omega (arith, c.if-hint-gt0.true)) c.requires.1 (rw (to_z-of_z {w = w32} c.ranges.key) (below c)))
