use mathlib.Core.Path.{◌≡◌, ap, ◌∙◌}
use mathlib.Core.List.{◌∷◌}
use Prim.Native.Nat.{◌+◌}
use lib.IntN.{pos}
use lib.ListN.{take, drop, get_or}
use Rattle.std.proofs.Common.{w32, rules, to_z, of_z}
use Rattle.replay_text.specs.Buffer.{puts}
use Rattle.replay_text.specs.Numbers.{signed, list}
use Rattle.replay_text.proofs.BufferLaws.{turn}
use Rattle.replay_text.proofs.NumberLaws.{list-next}
use Rattle.replay_text.proofs.put_ints.Goals as goal

pub loop-n-preserved : goal.loop-n-preserved
loop-n-preserved c =
    let l = c.loop-n in
    let items = take c.min.result c.args.area.now in
    let x = get_or items l.n-index (pos 0) in
    let p = c.put_byte-next in
    let q = c.put_int-next in
    let same : to_z w32 (of_z w32 x) ≡ x = search rules in
    turn (32 ∷ signed x) (list (drop (l.n-index + 1) items)) (record { next = l.next; out = l.out })
    (list-next items l.n-index c.loop-n-test.true) (ap (puts (signed x)) p.ensures.out_value ∙ (rw same at q.ensures)) l.invariant
