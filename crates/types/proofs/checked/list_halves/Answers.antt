use Rattle.std.proofs.Common.{below_more}
use Rattle.types.proofs.Classes.{listed_more, cast-bits}
use native.Mathlib.Omega.{arith}
use mathlib.Core.Path.{◌≡◌, refl, ap, ◌∙◌}
use mathlib.Core.List.{List}
use Prim.Native.Nat.{ℕ, ◌+◌, ◌*◌, ◌^◌, ◌<◌}
use lib.IntN.{ℤ}
use lib.ListN.{get_or}
use Rattle.definitions.specs.Tables as Tables
use Rattle.types.specs.Kinds.{half, halves}
use Rattle.types.proofs.checked.list_halves.Goals as goal

pub loop-j-init : goal.loop-j-init
unfolding Tables.list
loop-j-init c = record { listed = refl; small = λ k h. absurd (omega arith) }

pub loop-j-preserved : goal.loop-j-preserved
loop-j-preserved c =
    let l = c.loop-j in
    let a = c.args in
    let p = c.requires in
    let g = halves a.picked.src.now a.picked.index.now in
    let half_is : c.half-part.result ≡ g l.j a.i = c.half-part.ensures.0 ∙ ap (λ (v : List ℤ). half v a.i) c.data_of.ensures in
    let key_small : get_or a.classes.now l.j 0 * 65536 + c.half-part.result < 2 ^ 32 = omega (arith, p.3 l.j c.loop-j-test.true, a.picked.picks.indexed.few, p.0.some, c.half-part.ensures.1) in
    record {
      listed = listed_more g a.classes.now a.i l.j _ l.list c.put_pair.new.a l.invariant.listed c.put_pair.ensures (cast-bits (get_or a.classes.now l.j 0 * 65536 + c.half-part.result) key_small ∙ ap (λ (x : ℕ). get_or a.classes.now l.j 0 * 65536 + x) half_is);
      small = below_more _ _ l.invariant.small (omega (arith, half_is, c.half-part.ensures.1));
    }
