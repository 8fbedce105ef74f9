-- The entries of a list, and lists by index. Assumes nothing.
use Prim.Native.Nat.{ℕ, zero, suc, ◌<◌}
use Rattle.std.specs.Prelude.{◌≡◌, ◌⊎◌, length}
use Rattle.std.proofs.Math.Path.{refl, ap}
use Rattle.std.proofs.Common.{◌∙◌, subst, inl, inr}
use mathlib.Core.List.{List, [], ◌∷◌, ◌++◌}
use native.Mathlib.Omega.{arith}
use Rattle.std.proofs.Math.ListN.{get_or}
use Rattle.definitions.specs.Tables.{list}

-- one of a list
pub data Among {A : Type 0} (a : A) : List A → Type 0 where
  here : {l : List A} → Among a (a ∷ l)
  there : {b : A} {l : List A} → Among a l → Among a (b ∷ l)

module _ {A : Type 0} where
  -- one of a list is its first, or among the others
  pub among_first : {a b : A} {l : List A} → Among a (b ∷ l) → (a ≡ b) ⊎ Among a l
  among_first here = inl refl
  among_first (there m) = inr m

  -- nothing is among no entries
  pub among-nothing : {a : A} → Among a [] → ⊥
  among-nothing = elim [ ]

  -- one of two lists, one behind the other, is among either
  pub among-append : {a : A} (s : List A) {t : List A} → Among a (s ++ t) → Among a s ⊎ Among a t
  among-append [] m = inr m
  among-append {a} (x ∷ s) {t} m = go (among_first m) (λ k. among-append s k)
    where
      further : Among a s ⊎ Among a t → Among a (x ∷ s) ⊎ Among a t
      further (inl k) = inl (there k)
      further (inr k) = inr k

      go : (a ≡ x) ⊎ Among a (s ++ t) → (Among a (s ++ t) → Among a s ⊎ Among a t) → Among a (x ∷ s) ⊎ Among a t
      go (inl e) f = inl (subst (λ (z : A). Among a (z ∷ s)) e here)
      go (inr k) f = further (f k)

  -- the one of a list of one
  pub among_one : {a b : A} → Among a (b ∷ []) → a ≡ b
  among_one {a} {b} m = go (among_first m)
    where
      go : (a ≡ b) ⊎ Among a [] → a ≡ b
      go (inl e) = e
      go (inr k) = absurd (among-nothing k)

module _ {X : Type 0} where
  -- one of what is listed
  pub among-list : (f : ℕ → X) (k : ℕ) (m : X) → Among m (list f k) → (p : ℕ) × (p < k) × (m ≡ f p)
  unfolding list
  among-list f zero m h = absurd (among-nothing h)
  among-list f (suc k) m h = go (among-append (list f k) h) (λ u. among-list f k m u)
    where
      go : Among m (list f k) ⊎ Among m (f k ∷ []) → (Among m (list f k) → (p : ℕ) × (p < k) × (m ≡ f p)) → (p : ℕ) × (p < suc k) × (m ≡ f p)
      go (inl u) g = let (p, l, e) = g u in (p, omega arith, e)
      go (inr u) g = (k, omega arith, among_one u)

  -- the first one, and then the others
  pub list-cons : (f : ℕ → X) (k : ℕ) → list f (suc k) ≡ f 0 ∷ list (λ i. f (suc i)) k
  unfolding list
  list-cons f zero = refl
  list-cons f (suc k) = ap (λ (t : List X). t ++ f (suc k) ∷ []) (list-cons f k)

  -- equal entries make equal lists
  pub list_ext : (f g : ℕ → X) (k : ℕ) → ((i : ℕ) → i < k → f i ≡ g i) → list f k ≡ list g k
  unfolding list
  list_ext f g zero h = refl
  list_ext f g (suc k) h = rw (list_ext f g k (λ i l. h i (omega arith)), h k (omega arith))

  -- a list is made of its entries
  pub list-get_or : (d : X) (t : List X) → list (λ i. get_or t i d) (length t) ≡ t
  unfolding list
  list-get_or d [] = refl
  list-get_or d (x ∷ t) = list-cons (λ i. get_or (x ∷ t) i d) (length t) ∙ ap (λ (u : List X). x ∷ u) (list-get_or d t)

  -- the i-th of what was listed
  pub get_or-list : (f : ℕ → X) (k i : ℕ) (d : X) → i < k → get_or (list f k) i d ≡ f i
  get_or-list f zero i d l = absurd (omega arith)
  get_or-list f (suc k) zero d l = rw (list-cons f k)
  get_or-list f (suc k) (suc i) d l = rw (list-cons f k) (get_or-list (λ j. f (suc j)) k i d (omega arith))
