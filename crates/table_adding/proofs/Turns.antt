-- A turn of each loop that moves or raises the ints of an area, as an equation of lists. Assumes nothing.
use Prim.Native.Nat.{ℕ, zero, suc, ◌+◌, ◌<◌}
use mathlib.Core.Path.{◌≡◌, refl, sym, ap, ap₂, ◌∙◌}
use mathlib.Core.List.{List, [], ◌∷◌, ◌++◌, map}
use native.Mathlib.Numerals.{add-one}
use native.Mathlib.Omega.{arith}
use lib.IntN.{ℤ, pos}
use lib.ListN.{length, get_or, take, drop, set, length-map}
use lib.Seq.{drop-cons, set_at, get_or_at, length-take-le, append_snoc}
use Rattle.definitions.specs.Tables.{num, nat}
use Rattle.table_adding.specs.Adding.{raised}

-- ---- raised counts

module _ (by : ℕ) where
  raise-take : (a : List ℤ) (i : ℕ) → i < length a → map (raised by) (take (i + 1) a) ≡ map (raised by) (take i a) ++ raised by (get_or a i (pos 0)) ∷ []
  raise-take [] i l = absurd (omega arith)
  raise-take (x ∷ a) zero l = refl
  raise-take (x ∷ a) (suc i) l =
      let e : suc i + 1 ≡ suc (i + 1) = omega arith in
      rw e (ap (λ (m : List ℤ). raised by x ∷ m) (raise-take a i (omega arith)))

  module _ (a b : List ℤ) (i : ℕ) (l : i < length a) (e : b ≡ map (raised by) (take i a) ++ drop i a) where
    abbrev done : List ℤ
    done = map (raised by) (take i a)

    -- the int at i before the turn
    here : b ≡ done ++ get_or a i (pos 0) ∷ drop (suc i) a
    here = e ∙ ap (λ (m : List ℤ). done ++ m) (drop-cons a i (pos 0) l)

    long : length done ≡ i
    long = length-map (take i a) (raised by) ∙ length-take-le i a (omega arith)

    pub raise-same : nat b i ≡ nat a i
    unfolding nat
    raise-same = ap num (ap (λ (m : List ℤ). get_or m i (pos 0)) here ∙ get_or_at done (get_or a i (pos 0)) (drop (suc i) a) (pos 0) i long)

    pub raise-turn : (v : ℕ) → v ≡ nat a i + by → set b i (pos v) ≡ map (raised by) (take (i + 1) a) ++ drop (i + 1) a
    unfolding nat
    raise-turn v f =
        let x = get_or a i (pos 0) in
        ap₂ (λ (m : List ℤ) (n : ℕ). set m i (pos n)) here f
        ∙ (set_at done x (drop (suc i) a) (raised by x) i long
        ∙ (sym (append_snoc done (raised by x) (drop (suc i) a))
        ∙ ap₂ (λ (m k : List ℤ). m ++ k) (sym (raise-take a i l)) (ap (λ (j : ℕ). drop j a) (sym (add-one i)))))
