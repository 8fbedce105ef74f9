-- Lent areas, as lists. Assumes nothing.
use Rattle.std.specs.Prelude.{List, [], ◌∷◌, Bool, ℕ, zero, suc, ◌+◌, leb, ℤ, pos, length}

module _ {E : Type 0} where
  -- an area with these entries over its front, as far as it goes
  abbrev pub lay : List E → List E → List E
  lay [] area = area
  lay (x ∷ xs) [] = []
  lay (x ∷ xs) (a ∷ area) = x ∷ lay xs area

  -- an area with these entries from a place on, as far as it goes
  abbrev pub lay_at : ℕ → List E → List E → List E
  lay_at zero xs area = lay xs area
  lay_at (suc n) xs [] = []
  lay_at (suc n) xs (a ∷ area) = a ∷ lay_at n xs area

  -- whether an area has room for these entries from a place on
  abbrev pub fits_at : ℕ → List E → List E → Bool
  fits_at n xs area = leb (n + length xs) (length area)

-- an area of ints with every entry 0
abbrev pub cleared : List ℤ → List ℤ
cleared [] = []
cleared (a ∷ area) = pos 0 ∷ cleared area
