-- The entries of a list, and properties that all of them have. Assumes nothing.
use Rattle.std.specs.Prelude.{◌≡◌, refl, ◌⊎◌, Bool, true, false, ◌||◌, List, [], ◌∷◌, ◌++◌, ℕ, eqb}
use Rattle.std.proofs.Common.{sym, subst, inl, inr, arith, eq-eqb}
use Rattle.laws.specs.ListLaws.{among-append, among_one}
use Rattle.session.specs.Statement.{Among, here, there, All, none, more}

-- a test that came out both ways
pub contra : {A : Type 0} {b : Bool} → b ≡ true → b ≡ false → A
contra p q = let z : ◌≡◌ {A = ℕ} 0 1 = cc in absurd (omega arith)

-- by cases of a test
pub either : {A : Type 0} (t : Bool) → (t ≡ true → A) → (t ≡ false → A) → A
either true f g = f refl
either false f g = g refl

-- a number is equal to itself
pub eqb-self : (a : ℕ) → eqb a a ≡ true
eqb-self a = eq-eqb a a refl

-- or with true is true
pub or-true : (t : Bool) → (t || true) ≡ true
or-true true = refl
or-true false = refl

-- or with false changes nothing
pub or-false : (t : Bool) → (t || false) ≡ t
or-false true = refl
or-false false = refl

module _ {A : Type 0} where
  -- one of the first is among both
  pub among-left : {a : A} {s : List A} (t : List A) → Among a s → Among a (s ++ t)
  among-left t here = here
  among-left t (there m) = there (among-left t m)

  -- one of the second is among both
  pub among-right : {a : A} (s : List A) {t : List A} → Among a t → Among a (s ++ t)
  among-right [] m = m
  among-right (x ∷ s) m = there (among-right s m)

  -- what all entries of a list have, each has
  pub all_among : {P : A → Type 0} {a : A} {l : List A} → All P l → Among a l → P a
  all_among none m = elim m [ ]
  all_among (more p ps) here = p
  all_among (more p ps) (there m) = all_among ps m

  -- what follows for each follows for all
  pub all_map : {P Q : A → Type 0} {l : List A} → ((a : A) → P a → Q a) → All P l → All Q l
  all_map f none = none
  all_map f (more p ps) = more (f _ p) (all_map f ps)

  -- what all have, the front has
  pub all-front : {P : A → Type 0} (xs ys : List A) → All P (xs ++ ys) → All P xs
  all-front [] ys ps = none
  all-front (x ∷ xs) ys (more p ps) = more p (all-front xs ys ps)

  -- what all have, the one at a place has
  pub all-at : {P : A → Type 0} (xs ys : List A) (m : A) → All P (xs ++ m ∷ ys) → P m
  all-at [] ys m (more p ps) = p
  all-at (x ∷ xs) ys m (more p ps) = all-at xs ys m ps

  -- what holds of all before, and of one more after them
  pub one_more : {P : A → Type 0} {xs : List A} {m : A} → ((y : A) → Among y xs → P y) → P m → (y : A) → Among y (xs ++ m ∷ []) → P y
  one_more {P} {xs} {m} f q y h = go (among-append xs h)
    where
      go : Among y xs ⊎ Among y (m ∷ []) → P y
      go (inl k) = f y k
      go (inr k) = subst P (sym (among_one k)) q
