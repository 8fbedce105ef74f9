use Rattle.std.proofs.Common.{◌≡◌, ℕ, ◌+◌, ◌<◌, List, [], length, get_or, drop, ℤ, pos, sym, ◌∙◌, add-one, drop_of_length-le, drop-cons, to_z, to_z-of_z, w32, SFits, rules}
use Rattle.std.proofs.Math.Facts.{sfits_to_z}
use Rattle.definitions.specs.Ints.{wrapping_add}
use Rattle.definitions.specs.Ints as Ints
use Rattle.laws.specs.IntLaws.{wrapping_add-zero, zero-wrapping_add, wrapping_add-assoc, sum_fits}
use Rattle.ints.proofs.sum.Goals as goal

turn :
    (xs : List ℤ)
    (i : ℕ)
    (t r : ℤ) →
    i < length xs →
    wrapping_add t (Ints.sum (drop i xs)) ≡ Ints.sum xs →
    r ≡ wrapping_add t (get_or xs i (pos 0)) →
    wrapping_add r (Ints.sum (drop (i + 1) xs)) ≡ Ints.sum xs
turn xs i t r h e q = rw (q, add-one, wrapping_add-assoc) (rw (drop-cons xs i (pos 0) h) at e)

pub loop-x-init : goal.loop-x-init
loop-x-init c = zero-wrapping_add (sum_fits c.args.xs.now)

pub loop-x-preserved : goal.loop-x-preserved
loop-x-preserved c =
    let xs = c.args.xs.now in
    let f : SFits w32 c.wrapping_add-total.result = record { sfits = c.wrapping_add-total.type_inv } in
    let g : SFits w32 (get_or xs c.loop-x.x-index (pos 0)) = search rules in
    let q = rw (to_z-of_z {w = w32} g) at c.wrapping_add-total.ensures in
    rw (to_z-of_z {w = w32} f) (turn xs c.loop-x.x-index (to_z w32 c.loop-x.total-bits) _ c.loop-x-test.true c.loop-x.invariant q)

pub returns : goal.returns
returns c =
    let xs = c.args.xs.now in
    let e : drop c.loop-x.x-index xs ≡ [] = drop_of_length-le xs c.loop-x-test.false in
    sym (wrapping_add-zero (sfits_to_z c.loop-x.auto.total)) ∙ (rw e at c.loop-x.invariant)
