-- Tables whose types are all numbers have sound types. Assumes nothing.
use Prim.Native.Nat.{ℕ, zero, suc, ◌-◌, ◌/◌, ◌<◌, ◌≤◌, ◌^◌}
use mathlib.Core.Path.{◌≡◌, refl, ap, ap₂, ◌∙◌}
use mathlib.Core.List.{List, [], ◌∷◌, ◌++◌}
use native.Mathlib.Omega.{arith}
use lib.IntN.{ℤ}
use borrow.Author.Tests.{lt-ltb, lt-leb, ne_eqb}
use Rattle.definitions.specs.Outcome.{Outcome, return, ◌>>◌}
use Rattle.definitions.specs.Tables.{Item, Table, list, key_at, item_at, items, negatives, positives}
use Rattle.definitions.specs.Types.{judge_types, typed}
use Rattle.laws.specs.TableShape.{keys-le}
use Rattle.table.specs.Held.{Held}

-- keys of types from 1 up and below 4000 hex
abbrev Ordinals : Table → Type 0
Ordinals [] = Unit {0}
Ordinals (x ∷ t) = (65536 ≤ x.key) × (x.key < 2 ^ 30) × Ordinals t

ordinals-more : (t : Table) (x : Item) → Ordinals t → 65536 ≤ x.key → x.key < 2 ^ 30 → Ordinals (t ++ x ∷ [])
ordinals-more [] x o l h = (l, h, tt)
ordinals-more (y ∷ t) x o l h = (o.0, o.1, ordinals-more t x o.2 l h)

-- none is negative
walk_same : (t : Table) → Ordinals t → (negatives t ≡ []) × (positives t ≡ t)
unfolding negatives positives
walk_same [] o = (refl, refl)
walk_same (x ∷ t) o =
    let again = walk_same t o.2 in
    let b = lt-leb (2 ^ 31) x.key (omega (arith, o.1)) in
    (rw b again.0, rw b (ap (λ (u : Table). x ∷ u) again.1))

-- none names a kind or lacks one
judges : (s l : Table) → Ordinals l → judge_types s [] l ≡ return tt
unfolding judge_types
judges s [] o = refl
judges s (x ∷ l) o =
    rw (ne_eqb (x.key / 65536) 0 (λ e. omega (arith, o.0, e)), lt-ltb (x.key / 65536) 16384 (omega (arith, o.1)), judges s l o.2)

sound-types : (t : Table) → Ordinals t → typed t ≡ return t
unfolding typed
sound-types t o =
    let w = walk_same t o in
    ap (λ (l : Table). judge_types t [] l >> return t) (ap₂ ◌++◌ w.0 w.1) ∙ ap (λ (r : Outcome (Unit {0})). r >> return t) (judges t t o)

-- a table in form, by its first and last key
module _ (a : List ℤ) (n : ℕ) (h : Held a n) where
  first-items : (k : ℕ) → k ≤ n → (0 < k → 65536 ≤ key_at a 0) → (0 < k → key_at a (n - 1) < 2 ^ 30) → Ordinals (list (item_at a) k)
  unfolding list
  first-items zero l f g = tt
  first-items (suc k) l f g =
      ordinals-more (list (item_at a) k) (item_at a k) (first-items k (omega arith) (λ m. f (omega arith)) (λ m. g (omega arith)))
      (omega (arith, f (omega arith), keys-le a h.shape 0 k (omega arith) (omega (arith, h.count-is))))
      (omega (arith, g (omega arith), keys-le a h.shape k (n - 1) (omega arith) (omega (arith, h.count-is))))

  pub ordinals-sound : (0 < n → 65536 ≤ key_at a 0) → (0 < n → key_at a (n - 1) < 2 ^ 30) → typed (items a) ≡ return (items a)
  unfolding items
  ordinals-sound f g = sound-types (items a) (rw (← h.count-is) (first-items n (omega arith) f g))
