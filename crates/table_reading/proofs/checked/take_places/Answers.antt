use mathlib.Core.Path.{◌≡◌, refl, sym, ap, ◌∙◌}
use mathlib.Core.List.{List, [], ◌∷◌, ◌++◌, map}
use Prim.Native.Nat.{ℕ, ◌+◌, ◌<◌}
use native.Mathlib.Numerals.{add-one}
use native.Mathlib.Omega.{arith}
use lib.IntN.{ℤ}
use lib.ListN.{length, take, set}
use lib.Seq.{take-suc-set}
use Rattle.definitions.specs.Tables.{list}
use Rattle.sorting.specs.Pairs.{pair_at, pairs, place}
use Rattle.table_reading.proofs.checked.take_places.Goals as goal

map-append : (l m : List ℕ) → map place (l ++ m) ≡ map place l ++ map place m
map-append [] m = refl
map-append (x ∷ l) m = ap (λ (t : List ℕ). place x ∷ t) (map-append l m)

places-more : (keys : List ℤ) (j : ℕ) → map place (pairs keys j) ++ place (pair_at keys j) ∷ [] ≡ map place (pairs keys (j + 1))
places-more keys j = sym (map-append (pairs keys j) (pair_at keys j ∷ [])) ∙ rw (add-one j) (unfold list in refl)

turn : (keys : List ℤ) (index : List ℕ) (j v : ℕ) → j < length index → take j index ≡ map place (pairs keys j) → v ≡ place (pair_at keys j) → take (j + 1) (set index j v) ≡ map place (pairs keys (j + 1))
turn keys index j v h e q =
    ap (λ (k : ℕ). take k (set index j v)) (add-one j) ∙ take-suc-set index j v h
    ∙ ap (λ (l : List ℕ). l ++ v ∷ []) e ∙ ap (λ (x : ℕ). map place (pairs keys j) ++ x ∷ []) q ∙ places-more keys j

none : (keys : List ℤ) → map place (pairs keys 0) ≡ []
unfolding list
none keys = refl

pub loop-j-init : goal.loop-j-init
loop-j-init c = sym (none c.args.keys.now)

pub loop-j-preserved : goal.loop-j-preserved
loop-j-preserved c =
    turn c.args.keys.now c.loop-j.index c.loop-j.j c.place_at.result (omega (arith, c.requires.1, c.loop-j.auto.index)) c.loop-j.invariant c.place_at.ensures
