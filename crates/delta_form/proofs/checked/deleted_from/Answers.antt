use Prim.Native.Nat.{◌+◌, ◌<◌, ◌≤◌}
use mathlib.Core.Path.{◌≡◌, sym, ◌∙◌}
use native.Mathlib.Omega.{arith}
use borrow.Author.Tests.{not-true, not-false}
use mir.Facts.{to_z-of_z}
use lib.IntN.{pos}
use lib.ListN.{get_or}
use Rattle.definitions.specs.Ints.{bits, signed_less}
use Rattle.definitions.specs.Deltas.{rank, deleted_at}
use Rattle.laws.specs.IntLaws.{less-ranks, not-less-ranks}
use Rattle.delta_form.proofs.Ranks.{under_more}
use Rattle.std.proofs.Common.{w32}
use Rattle.delta_form.proofs.checked.deleted_from.Goals as goal
use Rattle.delta_form.proofs.checked.deleted_from.Goals.{After-signed_less, Else-not-signed_less, Then-not-signed_less}

-- the deleted key at hand is compared in signed order
compared : (c : After-signed_less) → let l = c.before.before.before in c.signed_less.result ≡ signed_less (get_or l.args.src.now (3 + l.loop-i.i) (pos 0)) l.args.key
compared c =
    let l = c in
    c.signed_less.ensures ∙ rw (to_z-of_z {w = w32} (record { sfits = c.signed_less-arg-1.given }), to_z-of_z {w = w32} l.ranges.key)

below : (c : Else-not-signed_less) → let l = c.before.before.before.before in rank (deleted_at l.args.src.now l.loop-i.i) < rank (bits l.args.key)
unfolding deleted_at
below c =
    let l = c in
    less-ranks _ l.args.key (record { sfits = c.signed_less-arg-1.given }) l.ranges.key (sym (compared c.before) ∙ not-false _ c.if-not-signed_less.false-raw)

not-below : (c : Then-not-signed_less) → let l = c.before.before.before.before in rank (bits l.args.key) ≤ rank (deleted_at l.args.src.now l.loop-i.i)
unfolding deleted_at
not-below c =
    let l = c in
    not-less-ranks _ l.args.key (record { sfits = c.signed_less-arg-1.given }) l.ranges.key (sym (compared c.before) ∙ not-true _ c.if-not-signed_less.true-raw)

pub returns-then-not-signed_less : goal.returns-then-not-signed_less
unfolding bits
returns-then-not-signed_less c =
    record { few = omega arith; under = rw (to_z-of_z {w = w32} c.ranges.key) at c.loop-i.invariant; here = λ m. not-below c }

pub loop-i-preserved : goal.loop-i-preserved
unfolding bits
loop-i-preserved c =
    rw (to_z-of_z {w = w32} c.ranges.key)
    (under_more _ _ _ (rw (to_z-of_z {w = w32} c.ranges.key) at c.loop-i.invariant) (below c))
