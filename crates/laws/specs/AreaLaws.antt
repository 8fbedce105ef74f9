-- Laws of lent areas. Assumes nothing.
use Rattle.std.specs.Prelude.{◌≡◌, refl, List, [], ◌∷◌, ◌++◌, ℕ, zero, suc, ◌+◌, ◌≤◌, ◌<◌, length, take, drop, get_or, set, ℤ, pos}
use Rattle.std.proofs.Common.{ap, add-one, arith, add_assoc, add-zero, zero-add, drop_of_length-le, drop-cons}
use Rattle.std.proofs.Math.Seq.{take-append_seam}
use Rattle.definitions.specs.Areas.{lay, lay_at, cleared}

module _ {E : Type 0} where
  -- an area keeps its length
  pub length-lay : (xs area : List E) → length (lay xs area) ≡ length area
  length-lay [] area = refl
  length-lay (x ∷ xs) [] = refl
  length-lay (x ∷ xs) (a ∷ area) = ap suc (length-lay xs area)

  pub length-lay_at : (n : ℕ) (xs area : List E) → length (lay_at n xs area) ≡ length area
  length-lay_at zero xs area = length-lay xs area
  length-lay_at (suc n) xs [] = refl
  length-lay_at (suc n) xs (a ∷ area) = ap suc (length-lay_at n xs area)

  -- an empty area takes nothing
  pub lay-nowhere : (xs : List E) → lay xs [] ≡ []
  lay-nowhere [] = refl
  lay-nowhere (x ∷ xs) = refl

  -- nothing laid changes nothing
  pub lay_at-nothing : (n : ℕ) (area : List E) → lay_at n [] area ≡ area
  lay_at-nothing zero area = refl
  lay_at-nothing (suc n) [] = refl
  lay_at-nothing (suc n) (a ∷ area) = ap (λ (l : List E). a ∷ l) (lay_at-nothing n area)

  -- past its end an area takes nothing
  pub lay_at-past : (n : ℕ) (xs area : List E) → length area ≤ n → lay_at n xs area ≡ area
  lay_at-past zero [] area h = refl
  lay_at-past zero (x ∷ xs) [] h = refl
  lay_at-past zero (x ∷ xs) (a ∷ area) h = let z : ⊥ = omega arith in absurd z
  lay_at-past (suc n) xs [] h = refl
  lay_at-past (suc n) xs (a ∷ area) h = ap (λ (l : List E). a ∷ l) (lay_at-past n xs area (omega arith))

  next : (n : ℕ) (x : E) (xs area : List E) → n < length area → lay_at n (x ∷ xs) area ≡ lay_at (suc n) xs (set area n x)
  next n x xs [] h = let z : ⊥ = omega arith in absurd z
  next zero x xs (a ∷ area) h = refl
  next (suc n) x xs (a ∷ area) h = ap (λ (l : List E). a ∷ l) (next n x xs area (omega arith))

  -- the first entry is stored, and the others are laid behind it
  pub lay_at-set : (n : ℕ) (x : E) (xs area : List E) → n < length area → lay_at n (x ∷ xs) area ≡ lay_at (n + 1) xs (set area n x)
  lay_at-set n x xs area h = rw add-one (next n x xs area h)

  -- what fits is at the front, then what the area held
  pub lay-append : (xs area : List E) → length xs ≤ length area → lay xs area ≡ xs ++ drop (length xs) area
  lay-append [] area h = refl
  lay-append (x ∷ xs) [] h = let z : ⊥ = omega arith in absurd z
  lay-append (x ∷ xs) (a ∷ area) h = ap (λ (l : List E). x ∷ l) (lay-append xs area (omega arith))

  -- what fits comes between what was before it and after it
  pub lay_at-between : (n : ℕ) (xs area : List E) → n + length xs ≤ length area → lay_at n xs area ≡ take n area ++ (xs ++ drop (n + length xs) area)
  lay_at-between zero xs area h = rw zero-add (lay-append xs area (omega arith))
  lay_at-between (suc n) xs [] h = let z : ⊥ = omega arith in absurd z
  lay_at-between (suc n) xs (a ∷ area) h =
      let e : suc n + length xs ≡ suc (n + length xs) = omega arith in
      rw e (ap (λ (l : List E). a ∷ l) (lay_at-between n xs area (omega arith)))

  -- one more entry of a list is copied
  pub lay_at-copy : (at i : ℕ) (d : E) (xs area : List E) → i < length xs → at + i < length area → lay_at (at + i) (drop i xs) area ≡ lay_at (at + (i + 1)) (drop (i + 1) xs) (set area (at + i) (get_or xs i d))
  lay_at-copy at i d xs area h k =
      rw (drop-cons xs i d h, lay_at-set (at + i) (get_or xs i d) (drop (suc i) xs) area k, ← add-one i, add_assoc)

  -- all of a list is copied
  pub lay_at-copied : (at i : ℕ) (xs area : List E) → length xs ≤ i → lay_at (at + i) (drop i xs) area ≡ area
  lay_at-copied at i xs area h = rw (drop_of_length-le xs h) (lay_at-nothing (at + i) area)

  split : (n : ℕ) (x : E) (xs area : List E) → lay_at n (x ∷ xs) area ≡ lay_at (suc n) xs (lay_at n (x ∷ []) area)
  split zero x xs [] = refl
  split zero x xs (a ∷ area) = refl
  split (suc n) x xs [] = refl
  split (suc n) x xs (a ∷ area) = ap (λ (l : List E). a ∷ l) (split n x xs area)

  -- the first entry is laid, and then the others behind it
  pub lay_at-split : (n : ℕ) (x : E) (xs area : List E) → lay_at n (x ∷ xs) area ≡ lay_at (n + 1) xs (lay_at n (x ∷ []) area)
  lay_at-split n x xs area = rw add-one (split n x xs area)

  -- one list is laid, and then the other behind it
  pub lay_at-append : (n : ℕ) (xs ys area : List E) → lay_at n (xs ++ ys) area ≡ lay_at (n + length xs) ys (lay_at n xs area)
  lay_at-append n [] ys area = rw (lay_at-nothing n area, add-zero n)
  lay_at-append n (x ∷ xs) ys area =
      let e : n + 1 + length xs ≡ n + suc (length xs) = omega arith in
      rw (lay_at-split n x (xs ++ ys) area, lay_at-split n x xs area, lay_at-append (n + 1) xs ys (lay_at n (x ∷ []) area), e)

  -- ---- the contents of a place after laying

  -- what was laid
  pub laid-there : (at : ℕ) (xs area : List E) → at + length xs ≤ length area → take (length xs) (drop at (lay_at at xs area)) ≡ xs
  laid-there zero xs area h = rw (lay-append xs area (omega arith)) (take-append_seam xs (drop (length xs) area))
  laid-there (suc n) [] [] h = refl
  laid-there (suc n) (x ∷ xs) [] h = absurd (omega arith)
  laid-there (suc n) xs (a ∷ area) h = laid-there n xs area (omega arith)

  lay-behind : (xs area : List E) (from : ℕ) → length xs ≤ from → drop from (lay xs area) ≡ drop from area
  lay-behind [] area from h = refl
  lay-behind (x ∷ xs) [] from h = refl
  lay-behind (x ∷ xs) (a ∷ area) zero h = absurd (omega arith)
  lay-behind (x ∷ xs) (a ∷ area) (suc from) h = lay-behind xs area from (omega arith)

  -- what comes after it
  pub laid-behind : (at : ℕ) (xs area : List E) (from : ℕ) → at + length xs ≤ from → drop from (lay_at at xs area) ≡ drop from area
  laid-behind zero xs area from h = lay-behind xs area from (omega arith)
  laid-behind (suc n) xs [] from h = refl
  laid-behind (suc n) xs (a ∷ area) zero h = absurd (omega arith)
  laid-behind (suc n) xs (a ∷ area) (suc from) h = laid-behind n xs area from (omega arith)

  lay-front : (at : ℕ) (xs area : List E) (n : ℕ) → n ≤ at → take n (lay_at at xs area) ≡ take n area
  lay-front at xs area zero h = refl
  lay-front zero xs area (suc n) h = absurd (omega arith)
  lay-front (suc at) xs [] (suc n) h = refl
  lay-front (suc at) xs (a ∷ area) (suc n) h = ap (λ (l : List E). a ∷ l) (lay-front at xs area n (omega arith))

  -- what comes before it
  pub laid-before : (at : ℕ) (xs area : List E) (from n : ℕ) → from + n ≤ at → take n (drop from (lay_at at xs area)) ≡ take n (drop from area)
  laid-before at xs area zero n h = lay-front at xs area n (omega arith)
  laid-before zero xs area (suc from) n h = absurd (omega arith)
  laid-before (suc at) xs [] (suc from) n h = refl
  laid-before (suc at) xs (a ∷ area) (suc from) n h = laid-before at xs area from n (omega arith)

-- areas of the same length are equal when cleared
pub cleared-same : (a b : List ℤ) → length a ≡ length b → cleared a ≡ cleared b
cleared-same [] [] e = refl
cleared-same [] (y ∷ b) e = let z : ⊥ = omega arith in absurd z
cleared-same (x ∷ a) [] e = let z : ⊥ = omega arith in absurd z
cleared-same (x ∷ a) (y ∷ b) e = ap (λ (l : List ℤ). pos 0 ∷ l) (cleared-same a b (omega arith))
