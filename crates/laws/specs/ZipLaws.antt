-- Two lists taken entry by entry. Assumes nothing.
use Rattle.std.specs.Prelude.{ℕ, zero, suc, ◌+◌, ◌<◌, ◌≡◌, refl, true, List, [], ◌∷◌, ℤ, pos, length, get_or, drop, set}
use Rattle.std.proofs.Common.{sym, ap, ◌∙◌, arith, eqb-true}
use Rattle.std.proofs.Math.Option.{Option, some, none}
use Rattle.definitions.specs.Ints.{wrapping_add, wrapping_sub}
use Rattle.definitions.specs.Areas.{lay_at}
use Rattle.definitions.specs.DeltaMaking.{zip_with, agree, differences, sums}
use Rattle.laws.specs.AreaLaws.{lay_at-copy}

module _ (f : ℤ → ℤ → ℤ) where
  pub length-zip_with : (xs ys : List ℤ) → length xs ≡ length ys → length (zip_with f xs ys) ≡ length xs
  length-zip_with [] ys e = refl
  length-zip_with (x ∷ xs) [] e = absurd (omega arith)
  length-zip_with (x ∷ xs) (y ∷ ys) e = ap suc (length-zip_with xs ys (omega arith))

  pub get_or-zip_with : (xs ys : List ℤ) (i : ℕ) → length xs ≡ length ys → i < length xs → get_or (zip_with f xs ys) i (pos 0) ≡ f (get_or xs i (pos 0)) (get_or ys i (pos 0))
  get_or-zip_with [] ys i e h = absurd (omega arith)
  get_or-zip_with (x ∷ xs) [] i e h = absurd (omega arith)
  get_or-zip_with (x ∷ xs) (y ∷ ys) zero e h = refl
  get_or-zip_with (x ∷ xs) (y ∷ ys) (suc i) e h = get_or-zip_with xs ys i (omega arith) (omega arith)

  -- one entry more is laid
  pub lay_at-zip : (at i : ℕ) (xs ys area : List ℤ) → length xs ≡ length ys → i < length xs → at + i < length area → lay_at (at + i) (drop i (zip_with f xs ys)) area ≡ lay_at (at + (i + 1)) (drop (i + 1) (zip_with f xs ys)) (set area (at + i) (f (get_or xs i (pos 0)) (get_or ys i (pos 0))))
  lay_at-zip at i xs ys area e h k =
      lay_at-copy at i (pos 0) (zip_with f xs ys) area (omega (arith, length-zip_with xs ys e)) k
      ∙ rw (get_or-zip_with xs ys i e h)

-- there are as many differences and sums as data
pub length-differences : (o : Option (List ℤ)) (v : List ℤ) → agree o v ≡ true → length (differences o v) ≡ length v
length-differences none v e = refl
length-differences (some w) v e = length-zip_with wrapping_sub v w (sym (eqb-true (length w) (length v) e))

pub length-sums : (o : Option (List ℤ)) (v : List ℤ) → agree o v ≡ true → length (sums o v) ≡ length v
length-sums none v e = refl
length-sums (some w) v e =
    let q = eqb-true (length w) (length v) e in
    length-zip_with wrapping_add w v q ∙ q
