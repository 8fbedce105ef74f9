-- `checked::take` meets its contract: what is in form holds a delta. Assumes nothing.
use Rattle.delta_form.specs.Held.{HeldDelta, held}
use Rattle.definitions.specs.Deltas.{num_deleted, num_updated}
use mathlib.Core.List.{[]}
use mathlib.Core.Path.{refl}
use native.Mathlib.Omega.{arith}
use Rattle.manager.proofs.checked.take.Goals as goal
use Rattle.manager.proofs.checked.take.Lts as lts
use Rattle.manager.proofs.checked.take.Tie as tie
use Rattle.manager.proofs.checked.take.Reads as reads

abbrev Start : Type 0
Start = lts.Start tie.the-claims reads.Pre reads.Post

-- the delta
delta-held : (c : Start) → HeldDelta [] c.args.delta.now (num_deleted c.args.delta.now) (num_updated c.args.delta.now)
delta-held c = held [] c.args.delta.now _ _ refl refl c.requires.1

pub nat_at-deleted-requires : goal.nat_at-deleted-requires
nat_at-deleted-requires c = let h = delta-held c in omega (arith, h.room)

pub nat_at-updated-requires : goal.nat_at-updated-requires
nat_at-updated-requires c = let h = delta-held c.before in omega (arith, h.room)

pub take_judged-requires : goal.take_judged-requires
take_judged-requires c =
    let s = c in
    (s.requires.0, held [] s.args.delta.now _ _ c.nat_at-deleted.ensures.0 c.nat_at-updated.ensures.0 s.requires.1, s.requires.2)
